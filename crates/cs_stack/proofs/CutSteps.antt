-- One context after another dies, from the active one on.
use Rattle.std.proofs.Common.{◌≡◌, ◌≢◌, ◌⊎◌, ℕ, ◌+◌, ◌≤◌, true, false, refl, sym, ap, subst, ◌∙◌, arith, append_assoc, Option, Some, None, IfSome, IsSome, is_some, List, [], ◌∷◌, ◌++◌, length, unwrap_or, inl, inr}
use Rattle.std.specs.Prelude.{◌==◌, ◌||◌}
use Rattle.std.proofs.lemmas.Bool.{ne_eqb, or_right}
use Rattle.cs_model.specs.State.{Rest}
use Rattle.cs_model.specs.Read.{active_birth}
use Rattle.cs_model.specs.Return.{is_among, sender_birth}
use Rattle.cs_acts.specs.declared.act.Act.{Act}
use Rattle.cs_acts.specs.declared.act.Act.TheVariants as act
use Rattle.cs_acts.specs.Ready.{IsReady}
use Rattle.cs_stack.specs.declared.parts.Parts.{Parts}
use Rattle.cs_stack.specs.Cuts.{Arrives, Dies, Fades, IsFirst, IsWay, LeadsDownTo, Stays, Stepped, Steps, ahead, spared}
use Rattle.cs_stack.specs.Good.{IsGood, Lacks}
use Rattle.cs_stack.specs.View.{act_of, birth_from, stored_of, view_of}
use Rattle.cs_stack.proofs.Acts.{answers, context_act, free_lacks}
use Rattle.cs_stack.proofs.CutStates.{dies_more, dies_none}
use Rattle.cs_stack.proofs.CutWays.{among_here, among_not, passed_once, way_on}
use Rattle.cs_stack.proofs.Rebasing.{no_frames}
use Rattle.cs_stack.proofs.Tops.{good_ready, opened_at}

-- ---- what stands for the active context, or for one where no frame is left

none_some : {A : Type 0} (x : A) → ◌≡◌ {A = Option A} None (Some x) → ⊥
none_some x e = cc

some_same : {A : Type 0} (x y : A) → Some x ≡ Some y → x ≡ y
some_same x y e = cc

pub first_act : (v : Parts) (a : Act) (j : ℕ) → IsGood v → act_of v a ≡ Some j → ((view_of v).rest.active ≡ Some j) ⊎ (v.pages.recent ≡ []) → IsFirst v a
first_act v (act.Frame page at) j good stands h = elim h [
  | inl e ↦ e ∙ sym stands
  | inr none ↦ absurd (none_some j (sym (ap (λ fs. birth_from fs at) (no_frames good none page)) ∙ stands))
]
first_act v (act.Context o) j good stands h = elim h [
  | inl e ↦ absurd (
      let top = opened_at v j good e in
      let c = context_act v o good (ap is_some stands) in
      let birth : c.x.birth ≡ j = some_same _ _ (sym (answers c o refl) ∙ stands) in
      let active : top.f.birth ≡ j = some_same _ _ (sym top.active ∙ e) in
      (subst (Lacks c.x.birth) top.is (free_lacks v o.0 c.x good c.there c.free top.p)).0 (birth ∙ sym active))
  | inr none ↦ none
]
first_act v act.Gone j good stands h = tt

-- ---- what stays

pub stays_none : (w : Parts) → Stays w w
stays_none w = record { rest = λ active. refl; names = λ o named. record { sound = named; is = refl }; total = refl; limit = refl; contexts = refl }

pub stays_more : (w v u : Parts) → Stays w v → Stays v u → Stays w u
stays_more w v u a b = record {
  rest = λ active. b.rest active ∙ a.rest active;
  names = λ o named. let m = a.names o named in let n = b.names o m.sound in record { sound = n.sound; is = n.is ∙ m.is };
  total = b.total ∙ a.total;
  limit = b.limit ∙ a.limit;
  contexts = b.contexts ∙ a.contexts;
}

-- ---- on the way

pub record Going (w v : Parts) (dying : List ℕ) (t n : ℕ) (a : Act) : Type 0 where
  pub good : IsGood v
  pub stays : Stays w v
  pub gone : List ℕ
  pub rest : List ℕ
  pub all : dying ≡ gone ++ rest
  pub count : length gone ≡ n
  pub dies : Dies (view_of w) (view_of v) gone
  pub way : IsWay (view_of v) t rest
  pub layout : spared dying v ≡ spared dying w
  pub stands : act_of v a ≡ Some (ahead t rest)
  pub first : IsFirst v a

pub begin : (w : Parts) (t : ℕ) (a : Act) → IsGood w → (g : LeadsDownTo w t) → act_of w a ≡ (view_of w).rest.active → Going w w g.dying t 0 a
begin w t a good g is = record {
  good = good;
  stays = stays_none w;
  gone = [];
  rest = g.dying;
  all = refl;
  count = refl;
  dies = dies_none (view_of w);
  way = g.way;
  layout = refl;
  stands = is ∙ g.active;
  first = first_act w a (ahead t g.dying) good (is ∙ g.active) (inl g.active);
}

-- it isn't at its end yet
pub record Ahead {w v : Parts} {dying : List ℕ} {t n : ℕ} {a : Act} (go : Going w v dying t n a) : Type 0 where
  pub i : ℕ
  pub is : List ℕ
  pub rest_is : go.rest ≡ i ∷ is

longer : (xs : List ℕ) (i : ℕ) → length (xs ++ i ∷ []) ≡ length xs + 1
longer [] i = refl
longer (x ∷ xs) i = omega (arith, longer xs i)

both_long : (xs ys : List ℕ) → length xs ≤ length (xs ++ ys)
both_long [] ys = omega arith
both_long (x ∷ xs) ys = omega (arith, both_long xs ys)

module _ {w v : Parts} {dying : List ℕ} {t n : ℕ} {a : Act} (go : Going w v dying t n a) where
  pub not_there : (b : ℕ) → act_of v a ≡ Some b → b ≢ t → Ahead go
  not_there b stands ne = cases go.rest refl
    where
      cases : (rest : List ℕ) → go.rest ≡ rest → Ahead go
      cases [] e = absurd (ne (some_same _ _ (sym stands ∙ go.stands ∙ ap (λ is. Some (ahead t is)) e)))
      cases (i ∷ is) e = record { i = i; is = is; rest_is = e }

  pub there : (b : ℕ) → act_of v a ≡ Some b → b ≡ t → Arrives w v dying t a
  there b stands same = cases go.rest refl
    where
      none_left : (xs : List ℕ) → xs ++ [] ≡ xs
      none_left [] = refl
      none_left (x ∷ xs) = ap (λ ys. x ∷ ys) (none_left xs)

      cases : (rest : List ℕ) → go.rest ≡ rest → Arrives w v dying t a
      cases [] e = record {
        good = go.good;
        stays = go.stays;
        dies = subst (Dies (view_of w) (view_of v)) (sym (go.all ∙ ap (λ is. go.gone ++ is) e ∙ none_left go.gone)) go.dies;
        layout = go.layout;
        stands = stands ∙ ap (λ m. Some m) same;
        first = go.first;
      }
      cases (i ∷ is) e = absurd ((subst (IsWay (view_of v) t) e go.way).0 (some_same _ _ (ap (λ js. Some (ahead t js)) (sym e) ∙ sym go.stands ∙ stands ∙ ap (λ m. Some m) same)))

  pub in_time : n ≤ length dying
  in_time = subst (λ m. m ≤ length dying) go.count (subst (λ ms. length go.gone ≤ length ms) (sym go.all) (both_long go.gone go.rest))

  module _ (on : Ahead go) where
    pub way : IsWay (view_of v) t (on.i ∷ on.is)
    way = subst (IsWay (view_of v) t) on.rest_is go.way

    pub next_other : (js : List ℕ) → on.i ≢ t → is_among on.i js ≡ false → on.i ≢ ahead t js
    next_other [] ne h = ne
    next_other (j ∷ js) ne h = (among_not on.i j js h).0

    abbrev pub steps : Steps v a
    steps = record {
      i = on.i;
      j = ahead t on.is;
      stands = go.stands ∙ ap (λ is. Some (ahead t is)) on.rest_is;
      first = go.first;
      sender = way.1;
      other = next_other on.is way.0 (passed_once (view_of v) t on.i on.is way);
    }

    among_middle : (xs : List ℕ) (i : ℕ) (ys : List ℕ) → is_among i (xs ++ i ∷ ys) ≡ true
    among_middle [] i ys = among_here i ys
    among_middle (x ∷ xs) i ys = ap (λ b. (i == x) || b) (among_middle xs i ys) ∙ or_right (i == x) true refl

    all_is : dying ≡ go.gone ++ (on.i ∷ on.is)
    all_is = go.all ∙ ap (λ is. go.gone ++ is) on.rest_is

    off : (j : ℕ) → on.i ≢ j → is_among j (on.i ∷ []) ≡ false
    off j ne = ap (λ b. b || false) (ne_eqb j on.i (λ e. ne (sym e)))

    pub goes_on : (u : Parts) (next : Act) → Stepped v u on.i (ahead t on.is) next → Going w u dying t (n + 1) next
    goes_on u next s = record {
      good = s.fades.good;
      stays = stays_more w v u go.stays s.fades.stays;
      gone = go.gone ++ on.i ∷ [];
      rest = on.is;
      all = all_is ∙ sym (append_assoc go.gone (on.i ∷ []) on.is);
      count = longer go.gone on.i ∙ ap (λ m. m + 1) go.count;
      dies = dies_more go.dies s.fades.dies (ap (λ (r : Rest). r.nil) (go.stays.rest None));
      way = way_on (view_of v) (view_of u) t on.i on.is way (λ j ne. s.fades.dies.other j (off j ne));
      layout = s.fades.layout dying (subst (λ ms. is_among on.i ms ≡ true) (sym all_is) (among_middle go.gone on.i on.is)) ∙ go.layout;
      stands = s.stands;
      first = s.first;
    }

-- ---- one step

module _ {w : Parts} (good : IsGood w) {a : Act} {page at : ℕ} (is : a ≡ act.Frame page at) (s : Steps w a) where
  active : (view_of w).rest.active ≡ Some s.i
  active = subst (IsFirst w) is s.first ∙ ap (act_of w) (sym is) ∙ s.stands

  pub step_ready : IsReady (stored_of w) (view_of w)
  step_ready = good_ready w good (opened_at w s.i good active)

  pub step_birth : active_birth (view_of w) ≡ s.i
  step_birth = ap (λ o. unwrap_or o (view_of w).rest.nil) active

  pub step_sender : IsSome (sender_birth (view_of w) (active_birth (view_of w)))
  step_sender = ap (λ n. is_some (sender_birth (view_of w) n)) step_birth ∙ ap is_some s.sender

pub told_at : {A : Type 0} (P : A → Type 0) (o : Option A) (x : A) → o ≡ Some x → IfSome o P → P x
told_at P o x e h = subst (λ q. IfSome q P) e h

pub stepped : (w v : Parts) (a : Act) (s : Steps w a) (next : Act) → act_of w next ≡ sender_birth (view_of w) s.i → Fades w v s.i → Stepped w v s.i s.j next
stepped w v a s next is fades =
    let stands = fades.acts next s.j s.other (is ∙ s.sender) in
    record { fades = fades; stands = stands; first = first_act v next s.j fades.good stands (fades.next s.j s.sender) }
