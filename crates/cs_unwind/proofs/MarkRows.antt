-- What primitives 195 and 197 come to, by what is read for them.
use Rattle.std.proofs.Common.{◌≡◌, ◌≢◌, ◌∙◌, ℕ, ◌%◌, ◌/◌, Bool, true, false, refl, sym, ap, subst, arith, Option, Some, None, IfSome, IsSome, is_some, option_and_then}
use Rattle.std.specs.Prelude.{◌==◌, if◌then◌else◌}
use Rattle.std.proofs.lemmas.Bool.Decides.{nat_tests}
use Rattle.cs_model.specs.Words.{small_value}
use Rattle.cs_word.specs.declared.Oop.{Oop}
use Rattle.cs_word.specs.declared.Kind.{Kind}
use Rattle.cs_word.specs.declared.Kind.TheVariants as kind
use Rattle.cs_heap.specs.Object.{Memory, birth_at, is_object}
use Rattle.cs_classes.specs.Meaning.{ref_of, ref_of_kind}
use Rattle.cs_classes.specs.Sound.{is_reference, is_reference_kind}
use Rattle.cs_model.specs.Ref.{Ref, Small, Char}
use Rattle.cs_model.specs.Ref as ref
use Rattle.cs_model.specs.Obj.{Context}
use Rattle.cs_model.specs.State.{Kept}
use Rattle.cs_model.specs.Context.{is_context_ref}
use Rattle.cs_model.specs.End.{Out, given}
use Rattle.cs_model.specs.PrimAnswer.{argument, fail, receiver, with_count}
use Rattle.cs_model.specs.PrimUnwind.{answer_context, answer_mark, handler_mark_prim, is_end, search_mark, unwind_mark_prim}
use Rattle.cs_model.specs.Return.{context_at, context_birth, is_marked, links, sender_birth}
use Rattle.cs_acts.specs.Names.{IsNamed, Store, name_of}

-- ---- nil or a context

-- a word that names what has a birth is the address of an object of that birth
record IsAddress (s : Store) (w : ℕ) (x : Ref) : Type 0 where
  there : is_object s.memory.objects w ≡ true
  birth : ref.named_object x ≡ Some (birth_at s.memory.objects w)

address : (s : Store) (o : Oop) → IsNamed s o → is_some (ref.named_object (name_of s o)) ≡ true → IsAddress s o.0 (name_of s o)
unfolding ref_of is_reference
address s o named has = go (o.0 % 2 == 1) (o.0 % 4 == 2) (o.0 % 8 == 0) named has
  where
    kinds : Bool → Bool → Bool → Kind
    kinds a b c = if a then kind.Small (small_value o.0) else (if b then kind.Character (o.0 / 4) else (if c then kind.Object o.0 else kind.Link o.0))

    go : (a b c : Bool) → is_reference_kind s.memory.objects (kinds a b c) ≡ true → is_some (ref.named_object (ref_of_kind s.memory.objects (kinds a b c))) ≡ true → IsAddress s o.0 (ref_of_kind s.memory.objects (kinds a b c))
    go true b c named has = absurd (cc)
    go false true c named has = absurd (cc)
    go false false true named has = record { there = named; birth = refl }
    go false false false named has = absurd (cc)

end_birth : (k : Kept) (x : Ref) → is_end k x ≡ true → is_some (ref.named_object x) ≡ true
end_birth k (Small a) e = absurd (cc)
end_birth k (Char a) e = absurd (cc)
end_birth k (ref.Obj i) e = refl

pub end_there : (k : Kept) (s : Store) (m : Memory) (o : Oop) → m ≡ s.memory → IsNamed s o → is_end k (name_of s o) ≡ true → is_object m.objects o.0 ≡ true
end_there k s m o e named is = ap (λ (n : Memory). is_object n.objects o.0) e ∙ (address s o named (end_birth k (name_of s o) is)).there

pub goal_read : (k : Kept) (s : Store) (m : Memory) (o : Oop) (birth : ℕ) → m ≡ s.memory → IsNamed s o → is_end k (name_of s o) ≡ true → birth ≡ birth_at m.objects o.0
    → Some birth ≡ (if is_end k (name_of s o) then ref.named_object (name_of s o) else None)
goal_read k s m o birth e named is read =
    ap Some (read ∙ ap (λ (n : Memory). birth_at n.objects o.0) e) ∙ sym (address s o named (end_birth k (name_of s o) is)).birth
    ∙ sym (ap (λ (b : Bool). if b then ref.named_object (name_of s o) else None) is)

-- ---- the rows

other : (m n : ℕ) → n ≢ m → (m == n) ≡ false
other m n h = grind (arith, nat_tests, h)

pub counted : (k : Kept) (wanted args : ℕ) (body : Out) → args ≢ wanted → with_count k wanted args body ≡ fail k
counted k wanted args body h = ap (λ (b : Bool). if b then body else fail k) (other wanted args h)

pub unwind-count : (k : Kept) (args : ℕ) → args ≢ 1 → unwind_mark_prim k args ≡ fail k
unfolding unwind_mark_prim
unwind-count k args h = counted k 1 args _ h

pub handler-count : (k : Kept) (args : ℕ) → args ≢ 0 → handler_mark_prim k args ≡ fail k
unfolding handler_mark_prim
handler-count k args h = counted k 0 args _ h

no_birth : (k : Kept) (x : Ref) → is_context_ref k x ≡ false → context_birth k x ≡ None
no_birth k x e = go (context_at k x) e
  where
    go : (o : Option Context) → is_some o ≡ false → option_and_then (λ (c : Context). ref.named_object x) o ≡ None
    go None e = refl
    go (Some c) e = absurd (cc)

-- a reference to a context has a birth
pub context_stands : (k : Kept) (x : Ref) → is_context_ref k x ≡ true → IsSome (context_birth k x)
context_stands k (Small a) e = absurd (cc)
context_stands k (Char a) e = absurd (cc)
context_stands k (ref.Obj i) e = go (context_at k (ref.Obj i)) e
  where
    go : (o : Option Context) → is_some o ≡ true → IsSome (option_and_then (λ (c : Context). ref.named_object (ref.Obj i)) o)
    go None e = absurd (cc)
    go (Some c) e = refl

unwind-none : (k : Kept) → context_birth k (receiver k 1) ≡ None → unwind_mark_prim k 1 ≡ fail k
unfolding unwind_mark_prim
unwind-none k e = ap (λ o. given o (fail k) (λ i. if is_end k (argument k 1 0) then answer_mark k 1 (search_mark links k 198 (ref.named_object (argument k 1 0)) (sender_birth k i)) else fail k)) e

pub unwind-no_context : (k : Kept) (args : ℕ) (x : Ref) → args ≡ 1 → x ≡ receiver k 1 → is_context_ref k x ≡ false → unwind_mark_prim k args ≡ fail k
unwind-no_context k args x one is e = ap (unwind_mark_prim k) one ∙ unwind-none k (ap (context_birth k) (sym is) ∙ no_birth k x e)

goal_none : (k : Kept) (x : Ref) → None ≡ (if is_end k x then ref.named_object x else None) → is_end k x ≡ false
goal_none k x e = go (is_end k x) refl e
  where
    go : (b : Bool) → is_end k x ≡ b → None ≡ (if b then ref.named_object x else None) → b ≡ false
    go true f e = absurd (let some = end_birth k x f in cc)
    go false f e = refl

record IsGoal (k : Kept) (x : Ref) (goal : ℕ) : Type 0 where
  end : is_end k x ≡ true
  birth : ref.named_object x ≡ Some goal

goal_some : (k : Kept) (x : Ref) (goal : ℕ) → Some goal ≡ (if is_end k x then ref.named_object x else None) → IsGoal k x goal
goal_some k x goal e = go (is_end k x) refl e
  where
    go : (b : Bool) → is_end k x ≡ b → Some goal ≡ (if b then ref.named_object x else None) → IsGoal k x goal
    go true f e = record { end = f; birth = sym e }
    go false f e = absurd (cc)

unwind-not_end : (k : Kept) → is_end k (argument k 1 0) ≡ false → unwind_mark_prim k 1 ≡ fail k
unfolding unwind_mark_prim
unwind-not_end k e = go (context_birth k (receiver k 1))
  where
    go : (o : Option ℕ) → given o (fail k) (λ i. if is_end k (argument k 1 0) then answer_mark k 1 (search_mark links k 198 (ref.named_object (argument k 1 0)) (sender_birth k i)) else fail k) ≡ fail k
    go None = refl
    go (Some i) = ap (λ (b : Bool). if b then answer_mark k 1 (search_mark links k 198 (ref.named_object (argument k 1 0)) (sender_birth k i)) else fail k) e

pub unwind-no_goal : (k : Kept) (args : ℕ) (x : Ref) → args ≡ 1 → x ≡ argument k 1 0 → None ≡ (if is_end k x then ref.named_object x else None) → unwind_mark_prim k args ≡ fail k
unwind-no_goal k args x one is e = ap (unwind_mark_prim k) one ∙ unwind-not_end k (ap (is_end k) (sym is) ∙ goal_none k x e)

unwind-some : (k : Kept) (i goal : ℕ) → context_birth k (receiver k 1) ≡ Some i → IsGoal k (argument k 1 0) goal → unwind_mark_prim k 1 ≡ answer_mark k 1 (search_mark links k 198 (Some goal) (sender_birth k i))
unfolding unwind_mark_prim
unwind-some k i goal e g =
    ap (λ o. given o (fail k) (λ i. if is_end k (argument k 1 0) then answer_mark k 1 (search_mark links k 198 (ref.named_object (argument k 1 0)) (sender_birth k i)) else fail k)) e
    ∙ ap (λ (b : Bool). if b then answer_mark k 1 (search_mark links k 198 (ref.named_object (argument k 1 0)) (sender_birth k i)) else fail k) g.end
    ∙ ap (λ o. answer_mark k 1 (search_mark links k 198 o (sender_birth k i))) g.birth

-- where the search begins: at the sender of the receiver
pub unwind-searches : (k : Kept) (args goal : ℕ) (x y : Ref) (o p : Option ℕ) → args ≡ 1 → x ≡ receiver k 1 → y ≡ argument k 1 0 → is_context_ref k x ≡ true → o ≡ context_birth k x → IfSome o (λ i. p ≡ sender_birth k i)
    → Some goal ≡ (if is_end k y then ref.named_object y else None) → answer_mark k 1 (search_mark links k 198 (Some goal) p) ≡ unwind_mark_prim k args
unwind-searches k args goal x y o p one is also context at sender end = sym (ap (unwind_mark_prim k) one ∙ go o at sender)
  where
    go : (o : Option ℕ) → o ≡ context_birth k x → IfSome o (λ i. p ≡ sender_birth k i) → unwind_mark_prim k 1 ≡ answer_mark k 1 (search_mark links k 198 (Some goal) p)
    go None at sender = absurd (let some = subst (λ q. IsSome q) (sym at) (context_stands k x context) in cc)
    go (Some i) at sender =
        unwind-some k i goal (ap (context_birth k) (sym is) ∙ sym at) (goal_some k (argument k 1 0) goal (end ∙ ap (λ z. if is_end k z then ref.named_object z else None) also))
        ∙ ap (λ q. answer_mark k 1 (search_mark links k 198 (Some goal) q)) (sym sender)

handler-none : (k : Kept) → context_birth k (receiver k 0) ≡ None → handler_mark_prim k 0 ≡ fail k
unfolding handler_mark_prim
handler-none k e = ap (λ o. given o (fail k) (λ i. if is_marked k 199 i then answer_context k 0 (Some i) else answer_mark k 0 (search_mark links k 199 None (sender_birth k i)))) e

pub handler-no_context : (k : Kept) (args : ℕ) (x : Ref) → args ≡ 0 → x ≡ receiver k 0 → is_context_ref k x ≡ false → handler_mark_prim k args ≡ fail k
handler-no_context k args x none is e = ap (handler_mark_prim k) none ∙ handler-none k (ap (context_birth k) (sym is) ∙ no_birth k x e)

handler-some : (k : Kept) (i : ℕ) → context_birth k (receiver k 0) ≡ Some i → handler_mark_prim k 0 ≡ (if is_marked k 199 i then answer_context k 0 (Some i) else answer_mark k 0 (search_mark links k 199 None (sender_birth k i)))
unfolding handler_mark_prim
handler-some k i e = ap (λ o. given o (fail k) (λ i. if is_marked k 199 i then answer_context k 0 (Some i) else answer_mark k 0 (search_mark links k 199 None (sender_birth k i)))) e

-- the receiver itself is marked
pub handler-marked : (k : Kept) (args : ℕ) (x : Ref) (o : Option ℕ) → args ≡ 0 → x ≡ receiver k 0 → is_context_ref k x ≡ true → o ≡ context_birth k x → IfSome o (λ i. true ≡ is_marked k 199 i)
    → (P : Out → Type 0) → IfSome o (λ i. P (answer_context k 0 (Some i))) → P (handler_mark_prim k args)
handler-marked k args x None none is context at marked P done = absurd (let some = subst (λ q. IsSome q) (sym at) (context_stands k x context) in cc)
handler-marked k args x (Some i) none is context at marked P done =
    subst P (sym (ap (handler_mark_prim k) none ∙ handler-some k i (ap (context_birth k) (sym is) ∙ sym at)
    ∙ ap (λ (b : Bool). if b then answer_context k 0 (Some i) else answer_mark k 0 (search_mark links k 199 None (sender_birth k i))) (sym marked))) done

-- it isn't, and the search begins at its sender
pub handler-searches : (k : Kept) (args : ℕ) (x : Ref) (o p : Option ℕ) → args ≡ 0 → x ≡ receiver k 0 → is_context_ref k x ≡ true → o ≡ context_birth k x → IfSome o (λ i. false ≡ is_marked k 199 i) → IfSome o (λ i. p ≡ sender_birth k i)
    → answer_mark k 0 (search_mark links k 199 None p) ≡ handler_mark_prim k args
handler-searches k args x None p none is context at marked sender = absurd (let some = subst (λ q. IsSome q) (sym at) (context_stands k x context) in cc)
handler-searches k args x (Some i) p none is context at marked sender =
    sym (ap (handler_mark_prim k) none ∙ handler-some k i (ap (context_birth k) (sym is) ∙ sym at)
    ∙ ap (λ (b : Bool). if b then answer_context k 0 (Some i) else answer_mark k 0 (search_mark links k 199 None (sender_birth k i))) (sym marked)
    ∙ ap (λ q. answer_mark k 0 (search_mark links k 199 None q)) (sym sender))
