-- What was given at the view behind a pop is given at the state that it keeps.
use Rattle.std.proofs.Common.{◌≡◌, ◌∙◌, ℕ, ℤ, pos, Bool, true, refl, sym, subst, ap, Option, Some, None}
use Rattle.std.specs.Prelude.{if◌then◌else◌}
use Rattle.std.specs.Cmp.{nat_cmp_total}
use Rattle.std.specs.FinMap.{nat_cmp-IsAntisymmetric, same_map}
use Rattle.cs_word.specs.declared.Oop.{Oop}
use Rattle.cs_model.specs.Ref.{Ref, Small, Char, same_ref}
use Rattle.cs_model.specs.Ref as ref
use Rattle.cs_model.specs.State.{Kept, IsHeld}
use Rattle.cs_model.specs.Keeps.{Keeps, SameKept}
use Rattle.cs_model.specs.Alike.{Alike}
use Rattle.cs_model.specs.Read.{from_top, stack_of}
use Rattle.cs_model.specs.Operation.{pop_of}
use Rattle.cs_model.specs.Number.{boolean}
use Rattle.cs_model.specs.End.{Out, given, stop, done}
use Rattle.cs_model.specs.Exec.{jump_if_out, jump_out, must_be_boolean, pop_into, special_send_out}
use Rattle.cs_model.specs.declared.stop.Stop.TheVariants as why
use Rattle.cs_model.proofs.Keeping.{Keeps-trans}
use Rattle.cs_model.proofs.Same.{Same, same}
use Rattle.cs_model.proofs.Executing.{jump_alike}
use Rattle.cs_acts.specs.Layout.{Layout}
use Rattle.cs_acts.specs.Names.{Store, KeepsNames, Names, NamesOption, name_of}
use Rattle.cs_acts.specs.Ready.{IsReady}
use Rattle.cs_acts.proofs.Held.{named_held}
use Rattle.cs_acts.proofs.Leading.{names-trans}
use Rattle.cs_code.specs.declared.end.CodeEnd.{CodeEnd}
use Rattle.cs_code.specs.declared.end.CodeEnd.TheVariants as code
use Rattle.cs_model.specs.declared.stop.Stop.{Stop}
use Rattle.cs_code.specs.Gives.{Gives}

-- ---- the same objects and the same rest are the same state

pub equal_kept : (a b : Kept) → SameKept a b → a ≡ b
equal_kept a b s =
    let objects = same_map nat_cmp_total nat_cmp-IsAntisymmetric a.objects b.objects s.objects in
    λ i. record { objects = objects i; rest = s.rest i }

pub same_itself : (k : Kept) → SameKept k k
same_itself k = record { objects = λ i. refl; rest = refl }

-- what is done exactly behind what was done exactly
pub exact-behind : (l n : Option Layout) (v w t : Kept) (f : Kept → Kept) → n ≡ l → (l ≡ None → SameKept v t) → (n ≡ None → SameKept w (f v)) → l ≡ None → SameKept w (f t)
exact-behind l n v w t f laid first second none = subst (λ u. SameKept w (f u)) (equal_kept v t (first none)) (second (laid ∙ none))

pub gives-along : (old mid new : Store) (l n : Option Layout) (v k : Kept) (e : CodeEnd) (a b : Out) → KeepsNames old mid → Alike k a b → n ≡ l → (l ≡ None → a ≡ b) → Gives mid new n v e a → Gives old new l v e b
gives-along old mid new l n v k e a b names alike laid equal g = record {
  granted = g.granted;
  end = g.end ∙ alike.end;
  named = g.named;
  state = Keeps-trans g.state alike.keeps;
  exact = λ none. subst (λ (o : Out). SameKept v o.state) (equal none) (g.exact (laid ∙ none));
  ready = g.ready;
  names = names-trans old mid new names g.names;
}

-- the topmost value is popped, and the rest is done with it
pub popped : (s0 s1 s2 : Store) (l n : Option Layout) (v0 v1 v2 : Kept) (x : Oop) (e : CodeEnd) (f : Kept → Kept → Ref → Out) → ((t u : Kept) (y : Ref) → Keeps t u → Same (IsHeld t) y y → Alike t (f t t y) (f u u y))
    → IsReady s1 v1 → Keeps v1 (pop_of v0) → (l ≡ None → SameKept v1 (pop_of v0)) → n ≡ l → KeepsNames s0 s1 → NamesOption s0 (Some x) (from_top 0 (stack_of v0))
    → Gives s1 s2 n v2 e (f v1 v1 (name_of s1 x)) → Gives s0 s2 l v2 e (pop_into v0 f)
unfolding pop_into
popped s0 s1 s2 l n v0 v1 v2 x e f alike ready keeps exact laid names top g =
    let named : Names s1 x (name_of s0 x) = names x top.sound in
    let held : IsHeld v1 (name_of s0 x) = subst (IsHeld v1) named.is (named_held s1 v1 x ready.sound.holds named.sound) in
    let given_x : Gives s1 s2 n v2 e (f v1 v1 (name_of s0 x)) = subst (λ r. Gives s1 s2 n v2 e (f v1 v1 r)) named.is g in
    subst (λ o. Gives s0 s2 l v2 e (given o (stop why.StackUnder v0) (λ y. f (pop_of v0) (pop_of v0) y))) top.is
    (gives-along s0 s1 s2 l n v2 v1 e _ _ names (alike v1 (pop_of v0) (name_of s0 x) keeps (same (name_of s0 x) held)) laid
    (λ none. ap (λ (t : Kept). f t t (name_of s0 x)) (equal_kept v1 (pop_of v0) (exact none))) given_x)

-- the wanted condition is popped, and the jump is done behind it
pub jumped : (s0 s1 s2 : Store) (l n : Option Layout) (v0 v1 v2 : Kept) (x : Oop) (e : CodeEnd) (wanted : Bool) (offset : ℕ) (z : ℤ) → z ≡ pos offset
    → Keeps v1 (pop_of v0) → (l ≡ None → SameKept v1 (pop_of v0)) → n ≡ l → KeepsNames s0 s1 → NamesOption s0 (Some x) (from_top 0 (stack_of v0)) → same_ref (name_of s0 x) (boolean v0 wanted) ≡ true
    → Gives s1 s2 n v2 e (jump_out v1 z) → Gives s0 s2 l v2 e (jump_if_out v0 wanted offset)
unfolding jump_if_out
jumped s0 s1 s2 l n v0 v1 v2 x e wanted offset z is keeps exact laid names top same_as g =
    let far : Gives s1 s2 n v2 e (jump_out v1 (pos offset)) = subst (λ y. Gives s1 s2 n v2 e (jump_out v1 y)) is g in
    let all = gives-along s0 s1 s2 l n v2 v1 e _ _ names (jump_alike keeps (pos offset)) laid (λ none. ap (λ (t : Kept). jump_out t (pos offset)) (equal_kept v1 (pop_of v0) (exact none))) far in
    subst (λ o. Gives s0 s2 l v2 e (given o (stop why.StackUnder v0) (λ y. after y))) top.is
    (subst (λ b. Gives s0 s2 l v2 e (if b then jump_out (pop_of v0) (pos offset) else otherwise (name_of s0 x))) (sym same_as) all)
  where
    otherwise : Ref → Out
    otherwise y = if same_ref y (ref.Obj v0.rest.true_) then done (pop_of v0) else (if same_ref y (ref.Obj v0.rest.false_) then done (pop_of v0) else special_send_out v0 must_be_boolean 0)

    after : Ref → Out
    after y = if same_ref y (boolean v0 wanted) then jump_out (pop_of v0) (pos offset) else otherwise y

-- what is done by one call, and what stops at once
pub gives_done : (s0 s1 : Store) (l : Option Layout) (v k : Kept) (o : Out) → o ≡ done k → Keeps v k → (l ≡ None → SameKept v k) → IsReady s1 v → KeepsNames s0 s1 → Gives s0 s1 l v code.Done o
gives_done s0 s1 l v k o e keeps exact ready names =
    subst (λ p. Gives s0 s1 l v code.Done p) (sym e) (record { granted = refl; end = refl; named = tt; state = keeps; exact = exact; ready = ready; names = names })

pub gives_stop : (s : Store) (l : Option Layout) (k : Kept) (reason : Stop) (o : Out) → o ≡ stop reason k → IsReady s k → Gives s s l k (code.Stop reason) o
gives_stop s l k reason o e ready =
    subst (λ p. Gives s s l k (code.Stop reason) p) (sym e)
    (record { granted = refl; end = refl; named = tt; state = ready.sound.closed; exact = λ _. same_itself k; ready = ready; names = λ w named. record { sound = named; is = refl } })
