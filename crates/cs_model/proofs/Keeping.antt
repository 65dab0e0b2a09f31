-- What a state keeps, it keeps after the same write to both.
use Rattle.std.proofs.Common.{◌≡◌, ℕ, Bool, true, false, refl, sym, ap, subst, ◌∙◌, Option, Some, None, IsSome, is_some, List, [], ◌∷◌, inl, inr, if◌then◌else◌}
use Rattle.std.specs.List.{AllByRecursion}
use Rattle.std.specs.FinMap.{get}
use Rattle.cs_model.specs.Ref.{Ref, Small, Char}
use Rattle.cs_model.specs.Ref as ref
use Rattle.cs_model.specs.Obj.{Obj, Context, Ptr, Raw, Method, Ctx, is_context}
use Rattle.cs_model.specs.State.{Kept, Rest, object_at, put, with_rest, IsHeld, ContextHeld, NamesHeld, RestHeld}
use Rattle.cs_model.specs.Keeps.{Keeps, SameKept, Grows}
use Rattle.cs_model.specs.Operation.{edit_found}
use Rattle.cs_model.proofs.Objects.{object_at-put_same, object_at-put_other, rest-put, at_put, held-put}
use Rattle.cs_model.proofs.Same.{Same, same, Any}

-- ---- what is held stays held

pub stays : (v : Kept) → Grows v v
stays v = record { held = λ i h. h }

pub grows-trans : {v t u : Kept} → Grows v t → Grows t u → Grows v u
grows-trans g h = record { held = λ i e. h.held i (g.held i e) }

pub grows-put : (v : Kept) (i : ℕ) (o : Obj) → Grows v (put v i o)
grows-put v i o = record { held = λ j h. held-put v i j o h }

pub grows-rest : (v : Kept) (r : Rest) → Grows v (with_rest r v)
grows-rest v r = record { held = λ i h. h }

pub IsHeld-grows : {v t : Kept} → Grows v t → (x : Ref) → IsHeld v x → IsHeld t x
IsHeld-grows g (Small a) h = tt
IsHeld-grows g (Char c) h = tt
IsHeld-grows g (ref.Obj i) h = g.held i h

pub all-grows : {v t : Kept} → Grows v t → (xs : List Ref) → AllByRecursion (IsHeld v) xs → AllByRecursion (IsHeld t) xs
all-grows g [] h = tt
all-grows g (x ∷ xs) h = (IsHeld-grows g x h.0, all-grows g xs h.1)

pub ContextHeld-grows : {v t : Kept} → Grows v t → (c : Context) → ContextHeld v c → ContextHeld t c
ContextHeld-grows g c h = record {
  sender = IsHeld-grows g c.sender h.sender;
  method = IsHeld-grows g c.method h.method;
  closure = IsHeld-grows g c.closure h.closure;
  receiver = IsHeld-grows g c.receiver h.receiver;
  stack = all-grows g c.stack h.stack;
}

pub NamesHeld-grows : {v t : Kept} → Grows v t → (o : Obj) → NamesHeld v o → NamesHeld t o
NamesHeld-grows g (Ptr head slots) h = all-grows g slots h
NamesHeld-grows g (Raw head bytes) h = tt
NamesHeld-grows g (Method head header literals bytecodes) h = all-grows g literals h
NamesHeld-grows g (Ctx c) h = ContextHeld-grows g c h

-- the same rest is held by more objects
pub RestHeld-grows : {v t : Kept} → Grows v t → t.rest ≡ v.rest → RestHeld v → RestHeld t
RestHeld-grows {v} {t} g e h = record {
  nil = subst (λ r. IsSome (object_at t r.nil)) (sym e) (g.held _ h.nil);
  false_ = subst (λ r. IsSome (object_at t r.false_)) (sym e) (g.held _ h.false_);
  true_ = subst (λ r. IsSome (object_at t r.true_)) (sym e) (g.held _ h.true_);
  special = subst (λ r. IsSome (object_at t r.special)) (sym e) (g.held _ h.special);
  classes = λ index i f. g.held i (h.classes index i (ap (λ r. get r.classes index) (sym e) ∙ f));
  active = λ i f. g.held i (h.active i (ap (λ r. r.active) (sym e) ∙ f));
}

-- ---- keeping

pub Keeps-itself : {v m : Kept} → Keeps v m → Keeps v v
Keeps-itself k = record { same = λ j o h. h; whole = λ j o h not_context. h; closed = k.closed; roots = k.roots; rest = refl }

pub Keeps-trans : {u v m : Kept} → Keeps u v → Keeps v m → Keeps u m
Keeps-trans j k = record {
  same = λ i o h. k.same i o (j.same i o h);
  whole = λ i o h not_context. j.whole i o (k.whole i o h not_context) not_context;
  closed = j.closed;
  roots = j.roots;
  rest = j.rest ∙ k.rest;
}

-- keeping sees of a state its objects and its rest alone

pub grows-same : {u v : Kept} → SameKept u v → Grows v u
grows-same e = record { held = λ i h. ap is_some (e.objects i) ∙ h }

pub Keeps-left : {u v m : Kept} → SameKept u v → Keeps v m → Keeps u m
Keeps-left e k = record {
  same = λ i o h. k.same i o (sym (e.objects i) ∙ h);
  whole = λ i o h not_context. e.objects i ∙ k.whole i o h not_context;
  closed = λ i o h. NamesHeld-grows (grows-same e) o (k.closed i o (sym (e.objects i) ∙ h));
  roots = RestHeld-grows (grows-same e) e.rest k.roots;
  rest = e.rest ∙ k.rest;
}

pub Keeps-right : {v m n : Kept} → Keeps v m → SameKept m n → Keeps v n
Keeps-right k e = record {
  same = λ i o h. sym (e.objects i) ∙ k.same i o h;
  whole = λ i o h not_context. k.whole i o (e.objects i ∙ h) not_context;
  closed = k.closed;
  roots = k.roots;
  rest = k.rest ∙ e.rest;
}

-- a closed state that has lost contexts alone
pub Keeps-lost : {u v : Kept} → Keeps u u → ((i : ℕ) (o : Obj) → object_at u i ≡ Some o → object_at v i ≡ Some o) → ((i : ℕ) (o : Obj) → object_at v i ≡ Some o → is_context o ≡ false → object_at u i ≡ Some o) → u.rest ≡ v.rest → Keeps u v
Keeps-lost c agree lacks e = record { same = agree; whole = lacks; closed = c.closed; roots = c.roots; rest = e }

-- the same object is put into both at the same birth
pub Keeps-put : {v m : Kept} → Keeps v m → (i : ℕ) (o : Obj) → NamesHeld v o → Keeps (put v i o) (put m i o)
Keeps-put {v} {m} k i o names = record {
  same = λ j p h. elim (at_put v i j o p h) [
    | inl e ↦ ap (object_at (put m i o)) e.0 ∙ object_at-put_same m i o ∙ ap (λ q. Some q) (sym e.1)
    | inr e ↦ object_at-put_other m i j o e.0 ∙ k.same j p e.1
  ];
  whole = λ j p h not_context. elim (at_put m i j o p h) [
    | inl e ↦ ap (object_at (put v i o)) e.0 ∙ object_at-put_same v i o ∙ ap (λ q. Some q) (sym e.1)
    | inr e ↦ object_at-put_other v i j o e.0 ∙ k.whole j p e.1 not_context
  ];
  closed = λ j p h. NamesHeld-grows (grows-put v i o) p (elim (at_put v i j o p h) [
    | inl e ↦ subst (λ q. NamesHeld v q) (sym e.1) names
    | inr e ↦ k.closed j p e.1
  ]);
  roots = RestHeld-grows (grows-put v i o) (rest-put v i o) k.roots;
  rest = rest-put v i o ∙ k.rest ∙ sym (rest-put m i o);
}

-- a context that v lacks changes
pub Keeps-put_right : {v m : Kept} → Keeps v m → (i : ℕ) (o : Obj) → object_at v i ≡ None → is_context o ≡ true → Keeps v (put m i o)
Keeps-put_right {v} {m} k i o lacks context = record {
  same = λ j p h. object_at-put_other m i j o (λ e. none_some p (sym lacks ∙ ap (object_at v) (sym e) ∙ h)) ∙ k.same j p h;
  whole = λ j p h not_context. elim (at_put m i j o p h) [
    | inl e ↦ absurd (false_true (sym not_context ∙ ap is_context e.1 ∙ context))
    | inr e ↦ k.whole j p e.1 not_context
  ];
  closed = k.closed;
  roots = k.roots;
  rest = k.rest ∙ sym (rest-put m i o);
} where
  none_some : (p : Obj) → None ≡ Some p → ⊥
  none_some p e = cc

  false_true : false ≡ true → ⊥
  false_true e = cc

pub Keeps-with_rest : {v m : Kept} → Keeps v m → (r : Rest) → RestHeld (with_rest r v) → Keeps (with_rest r v) (with_rest r m)
Keeps-with_rest {v} {m} k r held = record {
  same = k.same;
  whole = k.whole;
  closed = λ i o h. NamesHeld-grows (grows-rest v r) o (k.closed i o h);
  roots = held;
  rest = refl;
}

-- ---- both at once: t keeps u, and what v has, t has

pub record Moved (v t u : Kept) : Type 0 where
  pub keeps : Keeps t u
  pub grows : Grows v t

pub unmoved : {v m : Kept} → Keeps v m → Moved v v m
unmoved {v} k = record { keeps = k; grows = stays v }

-- one move behind another
pub moved : {v t u w x : Kept} → Moved v t u → Moved t w x → Moved v w x
moved a b = record { keeps = b.keeps; grows = grows-trans a.grows b.grows }

pub put_moved : {v m : Kept} {i j : ℕ} {o p : Obj} → Keeps v m → Same Any i j → Same (NamesHeld v) o p → Moved v (put v i o) (put m j p)
put_moved {v} k (same i a) (same o names) = record { keeps = Keeps-put k i o names; grows = grows-put v i o }

pub rest_moved : {v m : Kept} {r s : Rest} → Keeps v m → Same (λ r. RestHeld (with_rest r v)) r s → Moved v (with_rest r v) (with_rest s m)
rest_moved {v} k (same r held) = record { keeps = Keeps-with_rest k r held; grows = grows-rest v r }

-- a change of an object leaves contexts contexts, and names what v has
pub record IsEdit (v : Kept) (f : Obj → Obj) : Type 0 where
  pub context : (o : Obj) → is_context o ≡ true → is_context (f o) ≡ true
  pub held : (o : Obj) → NamesHeld v o → NamesHeld v (f o)

pub kept_context : {v m : Kept} → Keeps v m → (i : ℕ) (o : Obj) → object_at v i ≡ None → object_at m i ≡ Some o → is_context o ≡ true
kept_context {v} k i o lacks has = elim (is_context o) as (λ b. is_context o ≡ b → b ≡ true) [ true ↦ λ e. refl | false ↦ λ e. absurd (none_some (sym lacks ∙ k.whole i o has e)) ] refl where
  none_some : None ≡ Some o → ⊥
  none_some e = cc

edit_found_case : {v m : Kept} → Keeps v m → (f : Obj → Obj) → IsEdit v f → (i : ℕ) (o p : Option Obj) → object_at v i ≡ o → object_at m i ≡ p → Moved v (edit_found f i o v) (edit_found f i p m)
edit_found_case k f edit i None None e g = unmoved k
edit_found_case {v} k f edit i None (Some p) e g = record { keeps = Keeps-put_right k i (f p) e (edit.context p (kept_context k i p e g)); grows = stays v }
edit_found_case k f edit i (Some o) None e g = absurd (none_some (sym g ∙ k.same i o e)) where
  none_some : None ≡ Some o → ⊥
  none_some e = cc
edit_found_case {v} {m} k f edit i (Some o) (Some p) e g =
    subst (λ q. Moved v (put v i (f o)) (put m i (f q))) (cc (k.same i o e)) (put_moved k (same i tt) (same (f o) (edit.held o (k.closed i o e))))

-- the same change of the object at a birth, whether or not v has it
pub edit_found_moved : {v m : Kept} {f g : Obj → Obj} {i j : ℕ} → Keeps v m → Same (IsEdit v) f g → Same Any i j → Moved v (edit_found f i (object_at v i) v) (edit_found g j (object_at m j) m)
edit_found_moved {v} {m} k (same f edit) (same i a) = edit_found_case k f edit i (object_at v i) (object_at m i) refl refl

pub choose_moved : {v a b c d : Kept} {x y : Bool} → Same Any x y → Moved v a b → Moved v c d → Moved v (if x then a else c) (if y then b else d)
choose_moved (same true a) s t = s
choose_moved (same false a) s t = t
