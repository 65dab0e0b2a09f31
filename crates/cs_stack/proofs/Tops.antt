-- The last frame of the most recent page of a good world is its active context.
use Rattle.std.proofs.Common.{◌≡◌, ◌≢◌, ℕ, ◌<◌, true, refl, sym, ap, ap₂, subst, ◌∙◌, Some, List, [], ◌∷◌, length, unwrap_or, arith, inl, inr, is_some}
use Rattle.std.specs.Prelude.{◌↔◌, Contains}
use Rattle.std.specs.FinMap.{get, insert}
use Rattle.std.proofs.lemmas.Bool.{cases_eq}
use Rattle.cs_word.specs.Word.{natural_of_word}
use Rattle.cs_heap.specs.Object.{Object}
use Rattle.cs_classes.specs.Meaning.{kept_of, meaning_at, objects_of}
use Rattle.cs_frame.specs.Frame.{Frame}
use Rattle.cs_frame.specs.Page.{frames_of, on_page}
use Rattle.cs_frame.proofs.PageLaws.{frames_of-on_page, frames_of-on_page_other, length-on_page, on_page-on_page, page_in}
use Rattle.cs_marriage.specs.Agree.{Agree}
use Rattle.cs_model.specs.Obj.{Context, Ctx, context_in, lies_in, context_class}
use Rattle.cs_model.specs.State.{Rest, object_at, object_of, put}
use Rattle.cs_model.specs.Read.{active_birth, active_context, blank_context, method_of, pc_of}
use Rattle.cs_model.specs.Operation.{edit_active}
use Rattle.cs_acts.specs.Ready.{IsReady}
use Rattle.cs_stack.specs.declared.parts.Parts.{Parts}
use Rattle.cs_stack.specs.View.{active_in, active_page, bare, first_frames, frame_context, frames_onto, layout_of, pages_onto, stored_of, view_of}
use Rattle.cs_stack.specs.Good.{AreApart, FrameFits, FramesFit, IsGood}
use Rattle.cs_stack.proofs.Maps.{Objects, get_here, insert_twice}
use Rattle.cs_stack.proofs.Lives.{lives}
use Rattle.cs_stack.proofs.Framed.{IsOn, all_fit, front, here, onto_frame}
use Rattle.cs_stack.proofs.Alike.{Alike, AlikePages, alike_back, alike_on_page, alike_top, apart_alike, chain_alike, first_alike, laid_alike, length_alike}
use Rattle.cs_stack.proofs.Closed.{good_sound, method_there}

-- what the frames of page p are laid over: the heap, and the frames of all other pages
abbrev pub under : Parts → ℕ → Objects
under w p = pages_onto w.heap.objects (on_page w.frames p (λ _. [])) (objects_of (bare w.heap.objects))

-- the most recent page of a world has a last frame
pub record Opened (w : Parts) : Type 0 where
  pub p : ℕ
  pub qs : List ℕ
  pub f : Frame
  pub fs : List Frame
  pub recent : w.pages.recent ≡ p ∷ qs
  pub is : frames_of w.frames p ≡ f ∷ fs
  pub page_is : active_page w ≡ f ∷ fs
  pub within : p < length w.frames
  pub fits : FrameFits w.heap.objects w.roots.next_birth f fs
  pub rest : FramesFit w.heap.objects w.roots.next_birth fs
  pub objects : (view_of w).objects ≡ frames_onto w.heap.objects (f ∷ fs) (under w p)
  pub context : active_context (view_of w) ≡ frame_context w.heap.objects f fs
  pub birth : active_birth (view_of w) ≡ f.birth
  pub active : (view_of w).rest.active ≡ Some f.birth

pub opened_at : (w : Parts) (i : ℕ) → IsGood w → (view_of w).rest.active ≡ Some i → Opened w
unfolding active_context
opened_at w i good known = go w.pages.recent refl (active_page w) refl known
  where
    go : (recent : List ℕ) → w.pages.recent ≡ recent → (fs : List Frame) → first_frames w.frames recent ≡ fs → active_in fs ≡ Some i → Opened w
    go [] e [] is k = absurd (cc)
    go [] e (f ∷ fs) is k = absurd (cc)
    go (p ∷ qs) e [] is k = absurd (cc)
    go (p ∷ qs) e (f ∷ fs) is k =
        let os = w.heap.objects in
        let within : p < length w.frames = page_in w.frames p (omega (arith, ap length is)) in
        let fit = subst (FramesFit os w.roots.next_birth) is (good.frames p) in
        let page_is : active_page w ≡ f ∷ fs = ap (first_frames w.frames) e ∙ is in
        let active : (view_of w).rest.active ≡ Some f.birth = ap active_in page_is in
        let birth : active_birth (view_of w) ≡ f.birth = ap (λ o. unwrap_or o (view_of w).rest.nil) active in
        let found : object_at (view_of w) f.birth ≡ Some (Ctx (frame_context os f fs)) =
        onto_frame os w.roots.next_birth w.frames (objects_of (bare os)) p (all_fit w good) (subst (IsOn f fs) (sym is) here) in
        record {
          p = p;
          qs = qs;
          f = f;
          fs = fs;
          recent = e;
          is = is;
          page_is = page_is;
          within = within;
          fits = fit.0;
          rest = fit.1;
          objects = front os w.roots.next_birth w.frames (objects_of (bare os)) p (all_fit w good) within ∙ ap (λ es. frames_onto os es (under w p)) is;
          context = ap (λ b. unwrap_or (context_in (object_at (view_of w) b)) blank_context) birth ∙ ap (λ o. unwrap_or (context_in o) blank_context) found;
          birth = birth;
          active = active;
        }

pub opened : (w : Parts) → IsGood w → IsReady (stored_of w) (view_of w) → Opened w
opened w good ready = opened_at w _ good ready.running.known

-- where a context is active, contexts have a class
pub contexts_known : (w : Parts) → IsGood w → Opened w → is_some (get w.classes context_class) ≡ true
contexts_known w good o = good.whole.entries.contexts

pub good_ready : (w : Parts) → IsGood w → Opened w → IsReady (stored_of w) (view_of w)
unfolding method_of frame_context frames_onto
good_ready w good o =
    let os = w.heap.objects in
    let v = view_of w in
    let found : object_at v o.f.birth ≡ Some (Ctx (frame_context os o.f o.fs)) =
    ap (λ m. get m o.f.birth) o.objects ∙ get_here (frames_onto os o.fs (under w o.p)) o.f.birth (Ctx (frame_context os o.f o.fs)) in
    let l = lives os o.f.method (natural_of_word o.f.saved_pc) o.fits.lies in
    let live : (active_context v).pc ≡ Some l.pc = ap (λ (c : Context). c.pc) o.context ∙ l.at_is in
    let pc_is : pc_of v ≡ l.pc = ap (λ p. unwrap_or p 0) live in
    let method : method_of v ≡ meaning_at os o.f.method =
    ap (λ (c : Context). object_of v c.method) o.context ∙ method_there w good o.f.method (natural_of_word o.f.saved_pc) l in
    record {
      sound = good_sound w good;
      running = record {
        known = o.active ∙ ap (λ b. Some b) (sym o.birth);
        found = ap (object_at v) o.birth ∙ found ∙ ap (λ c. Some (Ctx c)) (sym o.context);
        live = live ∙ ap (λ p. Some p) (sym pc_is);
        method = ap (lies_in (method_of v)) pc_is ∙ ap (λ m. lies_in m l.pc) method ∙ l.lies;
      };
    }

-- a good world whose active context is that of one that was ready is ready
pub ready_again : (w v : Parts) → IsGood v → IsReady (stored_of w) (view_of w) → (view_of v).rest.active ≡ (view_of w).rest.active → IsReady (stored_of v) (view_of v)
ready_again w v good ready same = good_ready v good (opened_at v _ good (same ∙ ready.running.known))

-- ---- the last frame changes

abbrev pub with_frames : Parts → List (List Frame) → Parts
with_frames w ps = record w { frames = ps }

pub record Edited (w v : Parts) (h : Context → Context) : Type 0 where
  pub good : IsGood v
  pub view : view_of v ≡ edit_active (view_of w) h
  pub layout : layout_of v ≡ layout_of w

module _ (w : Parts) (good : IsGood w) (o : Opened w) (e : Frame) (h : Context → Context) (birth : e.birth ≡ o.f.birth) (context : e.context ≡ o.f.context)
    (caller : e.caller ≡ o.f.caller) (fits : FrameFits w.heap.objects w.roots.next_birth e o.fs)
    (same : frame_context w.heap.objects e o.fs ≡ h (frame_context w.heap.objects o.f o.fs)) where
  abbrev os : List Object
  os = w.heap.objects

  abbrev new : List (List Frame)
  new = on_page w.frames o.p (λ _. e ∷ o.fs)

  alike : Alike new w.frames
  alike = alike_on_page w.frames o.p (e ∷ o.fs) o.within (subst (AlikePages (e ∷ o.fs)) (sym o.is) (alike_top e o.f o.fs birth context caller))

  frames : (q : ℕ) → FramesFit os w.roots.next_birth (frames_of new q)
  frames q = elim (cases_eq q o.p) [
    | inl is ↦ subst (FramesFit os w.roots.next_birth) (sym (ap (frames_of new) is ∙ frames_of-on_page w.frames o.p (λ _. e ∷ o.fs) o.within)) (fits, o.rest)
    | inr other ↦ subst (FramesFit os w.roots.next_birth) (sym (frames_of-on_page_other w.frames o.p q (λ _. e ∷ o.fs) other)) (good.frames q)
  ]

  apart : (p q : ℕ) → p ≢ q → AreApart (frames_of new p) (frames_of new q)
  apart p q other =
      apart_alike (frames_of w.frames p) (frames_of new p) (frames_of w.frames q) (frames_of new q) (sym (alike p).births) (sym (alike q).births) (good.apart p q other)

  used_pages : (p : ℕ) → Contains w.pages.recent p ↔ (0 < length (frames_of new p))
  used_pages p = subst (λ n. Contains w.pages.recent p ↔ (0 < n)) (sym (length_alike (frames_of new p) (frames_of w.frames p) (alike p).births)) (good.used_pages p)

  still : Agree os new → IsGood (with_frames w new)
  still agrees = record {
    whole = good.whole;
    within = good.within;
    most = good.most;
    births = good.births;
    pcs = good.pcs;
    senders = good.senders;
    links = good.links;
    agree = agrees;
    frames = frames;
    apart = apart;
    total = good.total ∙ sym (length-on_page w.frames o.p (λ _. e ∷ o.fs));
    order = good.order;
    used_pages = used_pages;
    chain = chain_alike w.frames new (λ q. alike_back (alike q)) w.pages.recent good.chain;
  }

  abbrev below : Objects
  below = frames_onto os o.fs (under w o.p)

  objects : pages_onto os new (objects_of (bare os)) ≡ insert below e.birth (Ctx (frame_context os e o.fs))
  unfolding frames_onto
  objects =
      front os w.roots.next_birth new (objects_of (bare os)) o.p (record { frames = frames; apart = apart }) (omega (arith, o.within, length-on_page w.frames o.p (λ _. e ∷ o.fs)))
      ∙ ap (λ es. frames_onto os es (pages_onto os (on_page new o.p (λ _. [])) (objects_of (bare os)))) (frames_of-on_page w.frames o.p (λ _. e ∷ o.fs) o.within)
      ∙ ap (λ qs. frames_onto os (e ∷ o.fs) (pages_onto os qs (objects_of (bare os)))) (on_page-on_page w.frames o.p (λ _. e ∷ o.fs) (λ _. []) o.within)

  changed : pages_onto os new (objects_of (bare os)) ≡ (edit_active (view_of w) h).objects
  unfolding put frames_onto
  changed =
      objects
      ∙ ap (λ b. insert below b (Ctx (frame_context os e o.fs))) birth
      ∙ ap (λ c. insert below o.f.birth (Ctx c)) (same ∙ ap h (sym o.context))
      ∙ sym (insert_twice below o.f.birth (Ctx (frame_context os o.f o.fs)) (Ctx (h (active_context (view_of w)))))
      ∙ ap (λ m. insert m o.f.birth (Ctx (h (active_context (view_of w))))) (sym o.objects)
      ∙ ap (λ b. insert (view_of w).objects b (Ctx (h (active_context (view_of w))))) (sym o.birth)

  active : (view_of (with_frames w new)).rest ≡ (view_of w).rest
  active = ap (λ a. (kept_of (bare os) w.classes w.roots a).rest) (first_alike new w.frames alike w.pages.recent)

  done : Agree os new → Edited w (with_frames w new) h
  unfolding put
  done agrees = record {
    good = still agrees;
    view = ap₂ (λ m (r : Rest). record { objects = m; rest = r }) changed active;
    layout = ap (λ bs. Some (record { most = w.pages.total; pages = bs })) (laid_alike new w.frames alike w.pages.recent);
  }

-- it keeps its place, its birth, its context and its sender; heap and frames agree again
pub edited : (w : Parts) (good : IsGood w) (o : Opened w) (e : Frame) (h : Context → Context) (ps : List (List Frame)) → ps ≡ on_page w.frames o.p (λ _. e ∷ o.fs)
    → e.at ≡ o.f.at → e.birth ≡ o.f.birth → e.context ≡ o.f.context → e.caller ≡ o.f.caller → Agree w.heap.objects ps
    → FrameFits w.heap.objects w.roots.next_birth e o.fs → frame_context w.heap.objects e o.fs ≡ h (frame_context w.heap.objects o.f o.fs) → Edited w (with_frames w ps) h
edited w good o e h ps is at birth context caller agree fits same =
    subst (λ qs. Agree w.heap.objects qs → Edited w (with_frames w qs) h) (sym is) (done w good o e h birth context caller fits same) agree
