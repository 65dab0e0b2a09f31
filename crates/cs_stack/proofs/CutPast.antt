-- A return past a home: all contexts on the way have died, and the sender of the home is active.
use Rattle.std.proofs.Common.{◌≡◌, ℕ, suc, ◌+◌, ◌<◌, ◌≤◌, Bool, true, false, refl, sym, ap, subst, ◌∙◌, arith, Option, Some, None, IfSome, is_some, List, [], ◌∷◌, ◌++◌, length, map, option_and_then, unwrap_or, inl, inr}
use Rattle.std.specs.Prelude.{Contains, IsSomeAnd, nat_lt, not, ◌||◌, if◌then◌else◌}
use Rattle.std.specs.List.{AllByRecursion, filter, list_any}
use Rattle.std.specs.FinMap.{get}
use Rattle.std.proofs.lemmas.Bool.{eqb-false}
use Rattle.cs_word.specs.Word.{natural_of_word}
use Rattle.cs_word.specs.declared.Oop.{Oop}
use Rattle.cs_heap.specs.Object.{birth_at}
use Rattle.cs_classes.specs.Meaning.{context_of, objects_of, ref_of}
use Rattle.cs_classes.specs.Sound.{is_reference}
use Rattle.cs_frame.specs.Frame.{Frame, nil}
use Rattle.cs_frame.specs.Page.{frames_of}
use Rattle.cs_marriage.specs.Marriage.{CanBase}
use Rattle.cs_pages.specs.Order.{IsFree}
use Rattle.cs_pages.proofs.Lists.{Lacks as Off}
use Rattle.cs_model.specs.Ref.{Ref}
use Rattle.cs_model.specs.Obj.{Context, Ctx, context_in, dead}
use Rattle.cs_model.specs.Keeps.{Keeps}
use Rattle.cs_model.specs.State.{IsHeld, Kept, Rest, object_at}
use Rattle.cs_model.specs.Read.{active_birth, active_context, blank_context, depth_of, size_of}
use Rattle.cs_model.specs.Operation.{activate, cut_to_of, push_of}
use Rattle.cs_model.specs.Return.{context_birth, has_room, is_among, is_live, sender_birth}
use Rattle.cs_acts.specs.declared.act.Act.{Act}
use Rattle.cs_acts.specs.declared.act.Act.TheVariants as act
use Rattle.cs_acts.specs.Layout.{has_frame, is_on, left_of, none_dies, touched}
use Rattle.cs_acts.specs.Made.{contexts_in}
use Rattle.cs_acts.specs.Names.{IsNamed, name_of}
use Rattle.cs_acts.specs.Ready.{IsReady}
use Rattle.cs_acts.specs.Targets.{CanCut, dying_in, dying_to}
use Rattle.cs_acts.proofs.Firsts.{nil_names}
use Rattle.cs_acts.proofs.Held.{named_held}
use Rattle.cs_stack.specs.declared.parts.Parts.{Parts}
use Rattle.cs_stack.specs.Cuts.{Arrives, CutPast, Dies, IsFirst, IsWay, LeadsDownTo, ahead, spared}
use Rattle.cs_stack.specs.Good.{AreApart, IsGood}
use Rattle.cs_stack.specs.Moved.{Takes, based_parts}
use Rattle.cs_stack.specs.View.{act_of, bare, births_of, frame_context, laid_pages, stored_of, unframed, view_of}
use Rattle.cs_stack.proofs.Acts.{ContextAct, answers, birth_is, context_act, object}
use Rattle.cs_stack.proofs.Based.{based_contexts, based_good, based_layout, based_names, based_view}
use Rattle.cs_stack.proofs.Closed.{good_sound}
use Rattle.cs_stack.proofs.CutStates.{keeps-cut}
use Rattle.cs_stack.proofs.CutWays.{GoesPast, and_found, goes_past}
use Rattle.cs_stack.proofs.Dropping.{touched_first}
use Rattle.cs_stack.proofs.Framed.{IsOn, above, all_fit, fits_on, here, onto_frame}
use Rattle.cs_stack.proofs.Laid.{off_births}
use Rattle.cs_stack.proofs.Leaving.{less, push_active}
use Rattle.cs_stack.proofs.Lives.{lives}
use Rattle.cs_stack.proofs.Rebasing.{IsLive, bare_objects, can_base, live_at}
use Rattle.cs_stack.proofs.Returning.{sends}
use Rattle.cs_stack.proofs.Tops.{Opened, good_ready, opened, opened_at, ready_again}
use Rattle.cs_stack.proofs.Unwinding.{distinct_off}

some_same : {A : Type 0} (x y : A) → Some x ≡ Some y → x ≡ y
some_same x y e = cc

none_some : {A : Type 0} (x : A) → ◌≡◌ {A = Option A} None (Some x) → ⊥
none_some x e = cc

-- ---- the home and its sender

pub record Goal (w : Parts) (home : Act) : Type 0 where
  pub h : ℕ
  pub t : ℕ
  pub home_is : act_of w home ≡ Some h
  pub target_is : sender_birth (view_of w) h ≡ Some t
  pub can : CanCut (view_of w) h t

pub goal_at : (w : Parts) (home : Act) → IsSomeAnd (act_of w home) (λ birth. IsSomeAnd (sender_birth (view_of w) birth) (CanCut (view_of w) birth)) → Goal w home
goal_at w home can = go (act_of w home) refl can
  where
    next : (h : ℕ) → act_of w home ≡ Some h → (o : Option ℕ) → sender_birth (view_of w) h ≡ o → IsSomeAnd o (CanCut (view_of w) h) → Goal w home
    next h e None f can = absurd can
    next h e (Some t) f can = record { h = h; t = t; home_is = e; target_is = f; can = can }

    go : (o : Option ℕ) → act_of w home ≡ o → IsSomeAnd o (λ birth. IsSomeAnd (sender_birth (view_of w) birth) (CanCut (view_of w) birth)) → Goal w home
    go None e can = absurd can
    go (Some h) e can = next h e (sender_birth (view_of w) h) refl can

module _ {w : Parts} {home : Act} (ready : IsReady (stored_of w) (view_of w)) (g : Goal w home) where
  pub told_past : (P : ℕ → ℕ → Type 0) → IfSome (act_of w home) (λ birth. IfSome (sender_birth (view_of w) birth) (P birth)) → P g.h g.t
  told_past P all = subst (λ o. IfSome o (P g.h)) g.target_is (subst (λ o. IfSome o (λ birth. IfSome (sender_birth (view_of w) birth) (P birth))) g.home_is all)

  pub tell_past : (P : ℕ → ℕ → Type 0) → P g.h g.t → IfSome (act_of w home) (λ birth. IfSome (sender_birth (view_of w) birth) (P birth))
  tell_past P holds = subst (λ o. IfSome o (λ birth. IfSome (sender_birth (view_of w) birth) (P birth))) (sym g.home_is) (subst (λ o. IfSome o (P g.h)) (sym g.target_is) holds)

  pub past : GoesPast (view_of w) (active_birth (view_of w)) g.t (dying_to (view_of w) g.h)
  past =
      let is : dying_to (view_of w) g.h ≡ active_birth (view_of w) ∷ g.can.passed ++ g.h ∷ [] = ap (dying_in (active_birth (view_of w)) g.h) g.can.met in
      subst (GoesPast (view_of w) (active_birth (view_of w)) g.t) (sym is)
      (goes_past (view_of w) (active_birth (view_of w)) g.h g.t g.can.passed g.can.met g.target_is (ap (is_among g.t) (sym is) ∙ g.can.apart))

  -- the target by what a call answers for it
  pub same_target : (b : ℕ) (a : Act) → IfSome (act_of w home) (λ birth. act_of w a ≡ sender_birth (view_of w) birth) → act_of w a ≡ Some b → g.t ≡ b
  same_target b a told is = some_same _ _ (sym g.target_is ∙ sym (subst (λ o. IfSome o (λ birth. act_of w a ≡ sender_birth (view_of w) birth)) g.home_is told) ∙ is)

  abbrev pub leads : (b : ℕ) → g.t ≡ b → LeadsDownTo w b
  leads b same = record {
    dying = dying_to (view_of w) g.h;
    way = subst (λ n. IsWay (view_of w) n (dying_to (view_of w) g.h)) same past.way;
    active = ready.running.known ∙ ap (λ n. Some n) (sym past.from) ∙ ap (λ n. Some (ahead n (dying_to (view_of w) g.h))) same;
    few = past.few;
  }

  pub arrives_there : (v : Parts) (b : ℕ) (a : Act) → g.t ≡ b → Arrives w v (dying_to (view_of w) g.h) b a → Arrives w v (dying_to (view_of w) g.h) g.t a
  arrives_there v b a same arrives = subst (λ n. Arrives w v (dying_to (view_of w) g.h) n a) (sym same) arrives

  -- the context of the target
  target_context : (c : Context) × (object_at (view_of w) g.t ≡ Some (Ctx c))
  target_context =
      let found = and_found (λ (c : Context). context_birth (view_of w) c.sender) (context_in (object_at (view_of w) g.h)) g.t g.target_is in
      let s = sends (view_of w) found.0.sender g.t found.2 in
      (s.0, s.1.there)

-- ---- pages of which no frame dies

none_among : (dying : List ℕ) (fs : List Frame) → ((f : Frame) (gs : List Frame) → IsOn f gs fs → is_among f.birth dying ≡ false) → list_any (λ i. is_among i dying) (births_of fs) ≡ false
none_among dying [] h = refl
none_among dying (f ∷ fs) h = ap (λ b. b || list_any (λ i. is_among i dying) (births_of fs)) (h f fs here) ∙ none_among dying fs (λ g gs on. h g gs (above f fs on))

page_spared : (dying : List ℕ) (fs : List Frame) → ((f : Frame) (gs : List Frame) → IsOn f gs fs → is_among f.birth dying ≡ false) → left_of dying (births_of fs) ≡ births_of fs
unfolding left_of
page_spared dying [] h = refl
page_spared dying (f ∷ fs) h =
    ap (λ b. if b then left_of dying (births_of fs) else (if none_dies dying (births_of fs) then f.birth ∷ births_of fs else [])) (h f fs here)
    ∙ ap (λ b. if not b then f.birth ∷ births_of fs else []) (none_among dying fs (λ g gs on. h g gs (above f fs on)))

some_frame : (fs : List Frame) → 0 < length fs → has_frame (births_of fs) ≡ true
some_frame [] h = absurd (omega (arith, h))
some_frame (f ∷ fs) h = refl

all_spared : (dying : List ℕ) (ps : List (List Frame)) (ns : List ℕ) → ((q : ℕ) → Contains ns q → 0 < length (frames_of ps q))
    → ((q : ℕ) (f : Frame) (gs : List Frame) → IsOn f gs (frames_of ps q) → is_among f.birth dying ≡ false) → filter has_frame (map (left_of dying) (laid_pages ps ns)) ≡ laid_pages ps ns
all_spared dying ps [] some h = refl
all_spared dying ps (n ∷ ns) some h =
    ap (λ page. filter has_frame (page ∷ map (left_of dying) (laid_pages ps ns))) (page_spared dying (frames_of ps n) (h n))
    ∙ ap (λ b. if b then births_of (frames_of ps n) ∷ filter has_frame (map (left_of dying) (laid_pages ps ns)) else filter has_frame (map (left_of dying) (laid_pages ps ns)))
    (some_frame (frames_of ps n) (some n (0, omega arith, refl)))
    ∙ ap (λ pages. births_of (frames_of ps n) ∷ pages) (all_spared dying ps ns (λ q c. some q (behind q c)) h)
  where
    behind : (q : ℕ) → Contains ns q → Contains (n ∷ ns) q
    behind q (k, within, same) = (suc k, omega (arith, within), same)

-- ---- behind the last death

module _ {w v : Parts} {dying : List ℕ} {t : ℕ} {a : Act} (ended : Arrives w v dying t a) where
  -- a frame is live, so it hasn't died
  frame_spared : (q : ℕ) (f : Frame) (gs : List Frame) → IsOn f gs (frames_of v.frames q) → is_among f.birth dying ≡ false
  unfolding frame_context
  frame_spared q f gs on = go (is_among f.birth dying) refl
    where
      found : object_at (view_of v) f.birth ≡ Some (Ctx (frame_context v.heap.objects f gs))
      found = onto_frame v.heap.objects v.roots.next_birth v.frames (objects_of (bare v.heap.objects)) q (all_fit v ended.good) on

      go : (b : Bool) → is_among f.birth dying ≡ b → is_among f.birth dying ≡ false
      go false e = e
      go true e =
          let d = ended.dies.died f.birth e in
          absurd (elim d.2 [
            | inl none ↦ none_some (Ctx (frame_context v.heap.objects f gs)) (sym none ∙ found)
            | inr is ↦
                let same : Some (Ctx (frame_context v.heap.objects f gs)) ≡ Some (Ctx (dead (view_of w).rest.nil d.0)) = sym found ∙ is in
                let contexts : frame_context v.heap.objects f gs ≡ dead (view_of w).rest.nil d.0 = cc in
                let fits = fits_on v.heap.objects v.roots.next_birth on (ended.good.frames q) in
                let live = lives v.heap.objects f.method (natural_of_word f.saved_pc) fits.lies in
                none_some live.pc (sym (ap (λ (c : Context). c.pc) contexts) ∙ live.at_is)
          ])

  laid_spared : laid_pages v.frames v.pages.recent ≡ spared dying w
  laid_spared = sym (all_spared dying v.frames v.pages.recent (λ q h. (ended.good.used_pages q).0 h) frame_spared) ∙ ended.layout

  -- ---- the target is a frame

  module _ (active : (view_of v).rest.active ≡ Some t) where
    pages_off : (f : Frame) (fs : List Frame) (p : ℕ) → frames_of v.frames p ≡ f ∷ fs → (ns : List ℕ) → Off p ns → AllByRecursion (λ page. is_on f.birth page ≡ false) (laid_pages v.frames ns)
    pages_off f fs p is [] off = tt
    pages_off f fs p is (n ∷ ns) off = (
      off_births f.birth (frames_of v.frames n) (subst (λ es. AreApart es (frames_of v.frames n)) is (ended.good.apart p n (eqb-false p n off.0))).0,
      pages_off f fs p is ns off.1,
    )

    o : Opened v
    o = opened_at v t ended.good active

    laid_is : laid_pages v.frames v.pages.recent ≡ (o.f.birth ∷ births_of o.fs) ∷ laid_pages v.frames o.qs
    laid_is = ap (laid_pages v.frames) o.recent ∙ ap (λ fs. births_of fs ∷ laid_pages v.frames o.qs) o.is

    laid_touched : touched t (laid_pages v.frames v.pages.recent) ≡ laid_pages v.frames v.pages.recent
    laid_touched =
        let birth : o.f.birth ≡ t = some_same _ _ (sym o.active ∙ active) in
        ap (touched t) laid_is ∙ ap (λ n. touched n ((o.f.birth ∷ births_of o.fs) ∷ laid_pages v.frames o.qs)) (sym birth)
        ∙ touched_first o.f.birth (births_of o.fs) (laid_pages v.frames o.qs) (pages_off o.f o.fs o.p o.is o.qs (distinct_off v o.p o.qs ended.good o.recent)) ∙ sym laid_is

    to_frame : CutPast w v dying t
    to_frame = record {
      good = ended.good;
      state = record { rest = ap (λ b. activate b (view_of v).rest) active ∙ ended.stays.rest (Some t); dies = ended.dies };
      layout = ap (λ n. Some (record { most = n; pages = laid_pages v.frames v.pages.recent })) ended.stays.total
          ∙ ap (λ ps. Some (record { most = w.pages.total; pages = ps })) (sym laid_touched ∙ ap (touched t) laid_spared);
      names = ended.stays.names;
    }

  -- ---- the target is a context of the heap

  module _ (none : v.pages.recent ≡ []) {s : ℕ} (c : ContextAct v s) (birth : c.x.birth ≡ t) (apart : is_among t dying ≡ false) (live : is_live (view_of w) t ≡ true) where
    abbrev d : Context
    d = context_of (ref_of v.heap.objects) (unframed c.x).hash (unframed c.x).words

    there : object_at (view_of v) t ≡ Some (Ctx (context_of (ref_of v.heap.objects) (unframed c.x).hash (unframed c.x).words))
    there = ap (object_at (view_of v)) (sym birth) ∙ c.found

    live_now : is_some (context_of (ref_of v.heap.objects) (unframed c.x).hash (unframed c.x).words).pc ≡ true
    live_now = sym (ap (λ p. is_some (option_and_then (λ (c : Context). c.pc) (context_in p))) (sym (ended.dies.other t apart) ∙ there)) ∙ live

    target_live : IsLive v.heap.objects s
    target_live = live_at v.heap.objects v.classes v.roots s t d ended.good.whole ended.good.senders (object c) (birth_is c ∙ birth) (sym (ap (λ m. get m t) (bare_objects ended.good none)) ∙ there) live_now

    pub can_rebase : CanBase v.heap.objects s
    can_rebase = can_base ended.good.whole target_live ended.good.pcs ended.good.births

    nil_named : is_reference v.heap.objects nil ≡ true
    nil_named = (nil_names (stored_of v) (view_of v) (record { 0 = nil }) (good_sound v ended.good) refl).sound

    module _ (page : ℕ) (unused : IsFree v.pages page) where
      abbrev z : Parts
      z = based_parts page s v

      none_left : [] ≡ spared dying w
      none_left = sym (ap (laid_pages v.frames) none) ∙ laid_spared

      pub to_context : CutPast w (based_parts page s v) dying t
      to_context =
          let view = based_view ended.good none s target_live page unused nil_named in
          let at_birth : birth_at v.heap.objects s ≡ t = birth_is c ∙ birth in
          let based = based_names ended.good none s target_live page unused nil_named in
          record {
            good = based_good ended.good none s target_live page unused nil_named;
            state = record {
              rest = ap (λ (k : Kept). k.rest) view ∙ ap (λ n. activate (Some n) (view_of v).rest) at_birth ∙ ended.stays.rest (Some t);
              dies = subst (λ k. Dies (view_of w) k dying) (sym view) (record { died = ended.dies.died; other = ended.dies.other });
            };
            layout = based_layout ended.good none s target_live page unused nil_named
                ∙ ap (λ n. Some (record { most = v.pages.total; pages = (n ∷ []) ∷ [] })) at_birth
                ∙ ap (λ n. Some (record { most = n; pages = (t ∷ []) ∷ [] })) ended.stays.total
                ∙ ap (λ ps. Some (record { most = w.pages.total; pages = touched t ps })) none_left;
            names = λ y named. let m = ended.stays.names y named in let n = based y m.sound in record { sound = n.sound; is = n.is ∙ m.is };
          }

      pub to_context_made : contexts_in (based_parts page s v).heap.objects ≡ contexts_in w.heap.objects
      to_context_made = based_contexts ended.good none s target_live page unused nil_named ∙ ended.stays.contexts

-- ---- what a call sees

module _ {w v : Parts} {home a : Act} (ready : IsReady (stored_of w) (view_of w)) (g : Goal w home) (ended : Arrives w v (dying_to (view_of w) g.h) g.t a) where
  pub past_frame : ((o : Oop) → a ≡ act.Context o → ⊥) → CutPast w v (dying_to (view_of w) g.h) g.t
  past_frame other = go a refl
    where
      go : (b : Act) → a ≡ b → CutPast w v (dying_to (view_of w) g.h) g.t
      go (act.Frame page at) e = to_frame ended (subst (IsFirst v) e ended.first ∙ ap (act_of v) (sym e) ∙ ended.stands)
      go (act.Context o) e = absurd (other o e)
      go act.Gone e = absurd (none_some g.t (sym (ap (act_of v) e) ∙ ended.stands))

  module _ (good : IsGood w) (o : Oop) (is : a ≡ act.Context o) where
    stands : act_of v (act.Context o) ≡ Some g.t
    stands = ap (act_of v) (sym is) ∙ ended.stands

    none : v.pages.recent ≡ []
    none = subst (IsFirst v) is ended.first

    at : ContextAct v o.0
    at = context_act v o ended.good (ap is_some stands)

    birth : at.x.birth ≡ g.t
    birth = some_same _ _ (sym (answers at o refl) ∙ stands)

    pub past_can : CanBase v.heap.objects o.0
    past_can = can_rebase ended none at birth g.can.apart g.can.live

    pub past_free : length v.pages.recent < v.pages.total
    past_free = let first = opened w good ready in omega (arith, ap length none, ended.stays.total, good.total, first.within)

    module _ (z : Parts) (takes : Takes v.pages z (λ page. based_parts page o.0 v)) where
      pub past_context : CutPast w z (dying_to (view_of w) g.h) g.t
      past_context = subst (λ n. CutPast w n (dying_to (view_of w) g.h) g.t) (sym takes.is) (to_context ended none at birth g.can.apart g.can.live takes.page takes.free)

      pub past_made : contexts_in z.heap.objects ≤ contexts_in w.heap.objects + 0
      past_made = omega (arith, ap (λ (n : Parts). contexts_in n.heap.objects) takes.is, to_context_made ended none at birth g.can.apart g.can.live takes.page takes.free)

      pub past_limit : z.heap.limit ≡ w.heap.limit
      past_limit = ap (λ (n : Parts). n.heap.limit) takes.is ∙ ended.stays.limit

-- ---- and then the value is pushed

module _ {w v : Parts} {home : Act} (ready : IsReady (stored_of w) (view_of w)) (g : Goal w home) (p : CutPast w v (dying_to (view_of w) g.h) g.t) where
  active_is : (view_of v).rest.active ≡ Some g.t
  active_is = ap (λ (r : Rest). r.active) p.state.rest

  pub cut_ready : IsReady (stored_of v) (view_of v)
  cut_ready = good_ready v p.good (opened_at v g.t p.good active_is)

  abbrev target_is : (c : Context) × (object_at (view_of w) g.t ≡ Some (Ctx c))
  target_is = target_context ready g

  there_now : object_at (view_of v) g.t ≡ Some (Ctx target_is.0)
  there_now = p.state.dies.other g.t g.can.apart ∙ target_is.1

  context_is : active_context (view_of v) ≡ target_is.0
  unfolding active_context
  context_is = ap (λ o. unwrap_or (context_in (object_at (view_of v) (unwrap_or o (view_of v).rest.nil))) blank_context) active_is ∙ ap (λ o. unwrap_or (context_in o) blank_context) there_now

  pub cut_fits : depth_of (view_of v) < size_of (view_of v)
  cut_fits =
      let room : nat_lt (length target_is.0.stack) target_is.0.size ≡ true = sym (ap (λ o. has_room (context_in o)) target_is.1) ∙ g.can.room in
      subst (λ (c : Context). length c.stack < c.size) (sym context_is) (less _ _ room)

  pub cut_state : (x : Oop) (n : Kept) → IsNamed (stored_of w) x → n ≡ push_of (view_of v) (name_of (stored_of v) x)
      → (m : Kept) → Keeps (view_of w) m → Keeps n (cut_to_of m (dying_to (view_of w) g.h) g.t (name_of (stored_of w) x))
  cut_state x n named pushed m keeps =
      let names = p.names x named in
      let held : IsHeld (view_of v) (name_of (stored_of w) x) = subst (IsHeld (view_of v)) names.is (named_held (stored_of v) (view_of v) x (good_sound v p.good).holds names.sound) in
      subst (λ k. Keeps k (cut_to_of m (dying_to (view_of w) g.h) g.t (name_of (stored_of w) x))) (sym (pushed ∙ ap (push_of (view_of v)) names.is))
      (keeps-cut (view_of w) (view_of v) m (name_of (stored_of w) x) (dying_to (view_of w) g.h) g.t p.state (good_sound v p.good).closed held (ap is_some target_is.1) keeps)

  pub cut_ready_again : (z : Parts) (x : Ref) → IsGood z → view_of z ≡ push_of (view_of v) x → IsReady (stored_of z) (view_of z)
  cut_ready_again z x good pushed = ready_again v z good cut_ready (ap (λ (k : Kept). k.rest.active) pushed ∙ push_active (view_of v) x)
