-- What a primitive comes to: a failure, an answer, a stop, or no room for a context that is looked at.
use Rattle.std.proofs.Common.{◌≡◌, ◌∙◌, ℕ, ◌+◌, inl, refl, sym, ap, subst, arith, Option, Some, None, IfSome}
use Rattle.cs_word.specs.declared.Oop.{Oop}
use Rattle.cs_model.specs.declared.stop.Stop.TheVariants as why
use Rattle.cs_model.specs.Ref.{Ref}
use Rattle.cs_model.specs.Ref as ref
use Rattle.cs_model.specs.State.{Kept}
use Rattle.cs_model.specs.Keeps.{Keeps, SameKept}
use Rattle.cs_model.specs.Demand.{words_held}
use Rattle.cs_model.specs.Operation.{drop_of, nil_of, push_of}
use Rattle.cs_model.specs.Read.{IsRunning}
use Rattle.cs_model.specs.End.{Out, looked, stop}
use Rattle.cs_model.specs.End as ends
use Rattle.cs_model.specs.PrimAnswer.{answer, fail}
use Rattle.cs_model.specs.PrimUnwind.{answer_context, answer_mark, Marked, NoMark, MarkTooFar}
use Rattle.cs_acts.specs.declared.act.Full.{Full as Why}
use Rattle.cs_acts.specs.declared.act.Full.TheVariants.{Heap, Stack}
use Rattle.cs_acts.specs.declared.prim.PrimEnd.TheVariants as prim
use Rattle.cs_acts.specs.Full.{CausesFull}
use Rattle.cs_acts.specs.Layout.{Layout}
use Rattle.cs_acts.specs.Led.{Leads}
use Rattle.cs_acts.specs.Made.{MakesAtMost}
use Rattle.cs_acts.specs.Names.{KeepsNames, Names, Store, name_of}
use Rattle.cs_acts.specs.Primed.{EndsWithout}
use Rattle.cs_acts.specs.Ready.{IsReady, IsSound}
use Rattle.cs_acts.proofs.Dropping.{words-answered}
use Rattle.cs_acts.proofs.Leading.{along}
use Rattle.cs_unwind.specs.Performed.{Performs}

-- ---- nothing is changed

pub same_names : (s : Store) → KeepsNames s s
same_names s = λ o named. record { sound = named; is = refl }

pub made_none : (l : Option Layout) (s : Store) → MakesAtMost 0 l s s
made_none None s = tt
made_none (Some l) s = omega arith

pub fails : (s : Store) (l : Option Layout) (k from : Kept) (o : Out) → IsReady s k → o ≡ fail k → Performs s s l l k from k prim.Fail o
fails s l k from o ready e = subst (Performs s s l l k from k prim.Fail) (sym e) (record {
  gives = (refl, refl, record { state = ready.sound.closed; ready = ready; names = same_names s });
  exact = λ none. record { objects = λ i. refl; rest = refl };
  layout = refl;
  limit = refl;
  contexts = made_none l s;
})

-- ---- answers

-- the model answers x after so many looks
pub record Answers (k : Kept) (args looks : ℕ) (x : Ref) (o : Out) : Type 0 where
  pub end : o.end ≡ ends.Answer
  pub state : o.state ≡ push_of (drop_of k (args + 1)) x
  pub objects : o.count.objects ≡ 0
  pub looks_are : o.count.looks ≡ looks

answers_nil : (k : Kept) (args : ℕ) → Answers k args 0 (nil_of k) (answer_context k args None)
unfolding answer
answers_nil k args = record { end = refl; state = refl; objects = refl; looks_are = refl }

answers_context : (k : Kept) (args i : ℕ) → Answers k args 1 (ref.Obj i) (answer_context k args (Some i))
unfolding answer looked
answers_context k args i = record { end = refl; state = refl; objects = refl; looks_are = refl }

performs : (a c : Store) (l n : Option Layout) (k w : Kept) (args looks : ℕ) (x : Ref) (o : Out) → Answers k args looks x o → Leads a c l n w (push_of (drop_of k (args + 1)) x) looks → Performs a c l n k k w prim.Answer o
performs a c l n k w args looks x o by led = record {
  gives = (by.end, record { state = subst (Keeps w) (sym by.state) led.state; ready = led.ready; names = led.names });
  exact = λ none. subst (SameKept w) (sym by.state) (led.exact none);
  layout = led.layout;
  limit = led.limit;
  contexts = subst (λ m. MakesAtMost m l a c) (sym by.looks_are) led.contexts;
}

pub answers_with_nil : (a c : Store) (l n : Option Layout) (k w : Kept) (args : ℕ) (value : Oop) (m : Marked) → Names a value (nil_of k) → Leads a c l n w (push_of (drop_of k (args + 1)) (name_of a value)) 0 → m ≡ NoMark
    → Performs a c l n k k w prim.Answer (answer_mark k args m)
answers_with_nil a c l n k w args value m names led e =
    let here : Leads a c l n w (push_of (drop_of k (args + 1)) (nil_of k)) 0 = subst (λ x. Leads a c l n w (push_of (drop_of k (args + 1)) x) 0) names.is led in
    subst (λ m. Performs a c l n k k w prim.Answer (answer_mark k args m)) (sym e) (performs a c l n k w args 0 (nil_of k) (answer_context k args None) (answers_nil k args) here)

-- the context is looked at, and then it is answered
pub answered : (a b c : Store) (l m n : Option Layout) (k v w : Kept) (args : ℕ) (o : Option ℕ) (value : Oop) → v ≡ k → Leads a b l m v k 1 → IfSome o (λ i. Names b value (ref.Obj i))
    → Leads b c m n w (push_of (drop_of v (args + 1)) (name_of b value)) 0 → IfSome o (λ i. Performs a c l n k k w prim.Answer (answer_context k args (Some i)))
answered a b c l m n k v w args None value same first names led = tt
answered a b c l m n k v w args (Some i) value same first names led =
    let x : Ref = ref.Obj i in
    let read : Leads a b l m k k 1 = subst (λ u. Leads a b l m u k 1) same first in
    let named : Leads b c m n w (push_of (drop_of v (args + 1)) x) 0 = subst (λ y. Leads b c m n w (push_of (drop_of v (args + 1)) y) 0) names.is led in
    let done : Leads b c m n w (push_of (drop_of k (args + 1)) x) 0 = subst (λ u. Leads b c m n w (push_of (drop_of u (args + 1)) x) 0) same named in
    performs a c l n k w args 1 x (answer_context k args (Some i)) (answers_context k args i) (along a b c l m n k w (push_of (drop_of k (args + 1)) x) 1 0 read done)

-- a context was looked at, which changes nothing
pub looked_at : (a b : Store) (l m : Option Layout) (k v : Kept) → IsReady a k → v ≡ k → m ≡ l → b.memory.limit ≡ a.memory.limit → MakesAtMost 1 l a b → IsSound b v → KeepsNames a b → Leads a b l m v k 1
looked_at a b l m k v ready same layout limit made sound names = record {
  state = subst (λ u. Keeps u k) (sym same) ready.sound.closed;
  exact = λ none. subst (λ u. SameKept u k) (sym same) (record { objects = λ i. refl; rest = refl });
  layout = layout;
  limit = limit;
  contexts = made;
  ready = record { sound = sound; running = subst IsRunning (sym same) ready.running };
  names = names;
}

-- ---- stops, and no room

pub too_far : (s : Store) (l : Option Layout) (k : Kept) (args : ℕ) (m : Marked) → IsReady s k → m ≡ MarkTooFar → Performs s s l l k k k (prim.Stop why.ChainTooLong) (answer_mark k args m)
too_far s l k args m ready e = subst (λ m. Performs s s l l k k k (prim.Stop why.ChainTooLong) (answer_mark k args m)) (sym e) (record {
  gives = (refl, record { state = ready.sound.closed; ready = ready; names = same_names s });
  exact = λ none. record { objects = λ i. refl; rest = refl };
  layout = refl;
  limit = refl;
  contexts = made_none l s;
})

more_words : (s : Store) (l : Option Layout) (k t u : Kept) (made made' : ℕ) (why : Why) → made ≡ made' → words_held t ≡ words_held u → CausesFull s l k made t why → CausesFull s l k made' u why
more_words s l k t u made made' Stack e words cause = cause
more_words s l k t u made made' Heap e words cause =
    subst (λ n. CausesFull s l k n u Heap) e (record { words = omega (arith, cause.words, words); room = cause.room })

pub refused : (a b : Store) (l m : Option Layout) (k v : Kept) (args : ℕ) (o : Option ℕ) (why : Why) → IsRunning k → b.memory.limit ≡ a.memory.limit → why ≡ Heap → CausesFull b l k 0 k why
    → IfSome o (λ i. Performs a b l m k k v (prim.Full why) (answer_context k args (Some i)))
refused a b l m k v args None why running limit heap cause = tt
refused a b l m k v args (Some i) why running limit heap cause =
    let by = answers_context k args i in
    let o : Out = answer_context k args (Some i) in
    record {
      gives = (subst (λ w. EndsWithout w o.end) (sym heap) (inl by.end), more_words b l k k o.state 0 o.count.objects why (sym by.objects) (sym (ap words_held by.state ∙ words-answered k (args + 1) (ref.Obj i) running)) cause);
      exact = tt;
      layout = tt;
      limit = limit;
      contexts = tt;
    }
