-- What a primitive comes to: an answer, a failure, or no room for the sender.
use Rattle.std.proofs.Common.{◌≡◌, ◌∙◌, ℕ, ◌+◌, Bool, true, false, inl, refl, sym, ap, subst, arith, Option, Some, None, is_some}
use Rattle.std.specs.Prelude.{◌==◌, if◌then◌else◌}
use Rattle.std.proofs.lemmas.Bool.{eqb-true}
use Rattle.cs_word.specs.declared.Oop.{Oop}
use Rattle.cs_model.specs.Ref.{Ref}
use Rattle.cs_model.specs.State.{Kept}
use Rattle.cs_model.specs.Keeps.{Keeps, SameKept}
use Rattle.cs_model.specs.Context.{is_context_ref}
use Rattle.cs_model.specs.Demand.{words_held}
use Rattle.cs_model.specs.Read.{IsRunning}
use Rattle.cs_model.specs.Operation.{drop_of, push_of}
use Rattle.cs_model.specs.End.{Out, looked}
use Rattle.cs_model.specs.End as ends
use Rattle.cs_model.specs.PrimAnswer.{answer, fail}
use Rattle.cs_model.specs.PrimObject.{answer_field}
use Rattle.cs_acts.specs.declared.act.Full.{Full as Why}
use Rattle.cs_acts.specs.declared.act.Full.TheVariants.{Heap, Stack}
use Rattle.cs_acts.specs.declared.prim.PrimEnd.TheVariants as prim
use Rattle.cs_acts.specs.Full.{CausesFull}
use Rattle.cs_acts.specs.Layout.{Layout}
use Rattle.cs_acts.specs.Made.{MakesAtMost, made_by_reading}
use Rattle.cs_acts.specs.Names.{KeepsNames, NamesOption, Store, name_of}
use Rattle.cs_acts.specs.Primed.{EndsWithout}
use Rattle.cs_acts.specs.Ready.{IsReady}
use Rattle.cs_acts.specs.Targets.{field_of}
use Rattle.cs_acts.specs.Led.{Leads}
use Rattle.cs_prim_ctx.specs.Answered.{PerformsInPlace}
use Rattle.cs_acts.proofs.Dropping.{words-answered}
use Rattle.cs_prim_ctx.proofs.Fields.{field_below}
use Rattle.cs_acts.proofs.Leading.{along}

-- ---- failures

same_names : (s : Store) → KeepsNames s s
same_names s = λ o named. record { sound = named; is = refl }

made_none : (l : Option Layout) (s : Store) → MakesAtMost 0 l s s
made_none None s = tt
made_none (Some l) s = omega arith

pub fails : (s : Store) (l : Option Layout) (k : Kept) (o : Out) → IsReady s k → o ≡ fail k → PerformsInPlace s s l l k k prim.Fail o
fails s l k o ready e = subst (PerformsInPlace s s l l k k prim.Fail) (sym e) (record {
  gives = (refl, refl, record { state = ready.sound.closed; ready = ready; names = same_names s });
  exact = λ none. record { objects = λ i. refl; rest = refl };
  layout = refl;
  limit = refl;
  contexts = made_none l s;
})

-- ---- the answer of a field

pub record Answers (k : Kept) (args : ℕ) (x : Ref) (looks : ℕ) (o : Out) : Type 0 where
  pub end : o.end ≡ ends.Answer
  pub state : o.state ≡ push_of (drop_of k (args + 1)) x
  pub objects : o.count.objects ≡ 0
  pub looks_are : o.count.looks ≡ looks

answers : (k : Kept) (args i : ℕ) (x : Ref) → Answers k args x (made_by_reading i) (answer_field k args i (Some x))
unfolding answer looked
answers k args i x = go (i == 0)
  where
    go : (b : Bool) → Answers k args x (if b then 1 else 0) (if b then looked (answer k args x) else answer k args x)
    go true = record { end = refl; state = refl; objects = refl; looks_are = refl }
    go false = record { end = refl; state = refl; objects = refl; looks_are = refl }

performs : (a c : Store) (l n : Option Layout) (k w : Kept) (args looks : ℕ) (x : Ref) (o : Out) → Answers k args x looks o → Leads a c l n w (push_of (drop_of k (args + 1)) x) looks → PerformsInPlace a c l n k w prim.Answer o
performs a c l n k w args looks x o by led = record {
  gives = (by.end, record { state = subst (Keeps w) (sym by.state) led.state; ready = led.ready; names = led.names });
  exact = λ none. subst (SameKept w) (sym by.state) (led.exact none);
  layout = led.layout;
  limit = led.limit;
  contexts = subst (λ m. MakesAtMost m l a c) (sym by.looks_are) led.contexts;
}

-- the field is read, and then it is answered
pub answered : (a b c : Store) (l m n : Option Layout) (k v w : Kept) (args i : ℕ) (y : Ref) (value : Oop) → v ≡ k → Leads a b l m v k (made_by_reading i) → NamesOption b (Some value) (field_of k y i)
    → Leads b c m n w (push_of (drop_of v (args + 1)) (name_of b value)) 0 → PerformsInPlace a c l n k w prim.Answer (answer_field k args i (field_of k y i))
answered a b c l m n k v w args i y value same first names led =
    let x : Ref = name_of b value in
    let read : Leads a b l m k k (made_by_reading i) = subst (λ u. Leads a b l m u k (made_by_reading i)) same first in
    let done : Leads b c m n w (push_of (drop_of k (args + 1)) x) 0 = subst (λ u. Leads b c m n w (push_of (drop_of u (args + 1)) x) 0) same led in
    let all : Leads a c l n w (push_of (drop_of k (args + 1)) x) (made_by_reading i) =
    subst (λ n'. Leads a c l n w (push_of (drop_of k (args + 1)) x) n') (omega arith) (along a b c l m n k w (push_of (drop_of k (args + 1)) x) (made_by_reading i) 0 read done) in
    subst (λ o. PerformsInPlace a c l n k w prim.Answer (answer_field k args i o)) names.is (performs a c l n k w args (made_by_reading i) x (answer_field k args i (Some x)) (answers k args i x) all)

-- there is no such field, so it isn't the sender
pub missed : (a b : Store) (l m : Option Layout) (k v : Kept) (args i : ℕ) (y : Ref) → is_context_ref k y ≡ true → v ≡ k → Leads a b l m v k (made_by_reading i) → NamesOption b None (field_of k y i)
    → PerformsInPlace a b l m k v prim.Fail (answer_field k args i (field_of k y i))
missed a b l m k v args i y context same led names = go (i == 0) refl
  where
    none : Leads a b l m v k 0 → PerformsInPlace a b l m k v prim.Fail (fail k)
    none led = record {
      gives = (refl, same, record { state = led.state; ready = led.ready; names = led.names });
      exact = led.exact;
      layout = led.layout;
      limit = led.limit;
      contexts = led.contexts;
    }

    go : (b' : Bool) → (i == 0) ≡ b' → PerformsInPlace a b l m k v prim.Fail (answer_field k args i (field_of k y i))
    go true e =
        let zero_is : i ≡ 0 = eqb-true i 0 e in
        absurd (let no : true ≡ false = field_below k y i context (omega (arith, zero_is)) ∙ ap is_some (sym names.is) in cc)
    go false e =
        subst (λ o. PerformsInPlace a b l m k v prim.Fail (answer_field k args i o)) names.is (none (subst (λ (c : Bool). Leads a b l m v k (if c then 1 else 0)) e led))

-- ---- no room

more_words : (s : Store) (l : Option Layout) (k t u : Kept) (made made' : ℕ) (why : Why) → made ≡ made' → words_held t ≡ words_held u → CausesFull s l k made t why → CausesFull s l k made' u why
more_words s l k t u made made' Stack e words cause = cause
more_words s l k t u made made' Heap e words cause =
    subst (λ n. CausesFull s l k n u Heap) e (record { words = omega (arith, cause.words, words); room = cause.room })

some_at : (k : Kept) (args i : ℕ) (o : Option Ref) → true ≡ is_some o → (x : Ref) × (answer_field k args i o ≡ answer_field k args i (Some x))
some_at k args i None e = absurd (cc)
some_at k args i (Some x) e = (x, refl)

pub refused : (a b : Store) (l m : Option Layout) (k v : Kept) (args i : ℕ) (y : Ref) (why : Why) → IsRunning k → is_context_ref k y ≡ true → i ≡ 0 → b.memory.limit ≡ a.memory.limit → why ≡ Heap → CausesFull b l k 0 k why
    → PerformsInPlace a b l m k v (prim.Full why) (answer_field k args i (field_of k y i))
refused a b l m k v args i y why running context is limit heap cause =
    let found = some_at k args i (field_of k y i) (field_below k y i context (omega (arith, is))) in
    let by = answers k args i found.0 in
    let o : Out = answer_field k args i (Some found.0) in
    let done : PerformsInPlace a b l m k v (prim.Full why) o = record {
      gives = (subst (λ w. EndsWithout w o.end) (sym heap) (inl by.end), more_words b l k k o.state 0 o.count.objects why (sym by.objects) (sym (ap words_held by.state ∙ words-answered k (args + 1) found.0 running)) cause);
      exact = tt;
      layout = tt;
      limit = limit;
      contexts = tt;
    } in
    subst (PerformsInPlace a b l m k v (prim.Full why)) (sym found.1) done
