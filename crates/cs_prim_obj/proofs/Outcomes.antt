-- What a primitive comes to that answers.
use Rattle.std.proofs.Common.{◌≡◌, ◌∙◌, ℕ, ◌+◌, refl, sym, ap, subst, Option, Some, None}
use Rattle.cs_word.specs.declared.Oop.{Oop}
use Rattle.cs_model.specs.Ref.{Ref}
use Rattle.cs_model.specs.State.{IsHeld, Kept}
use Rattle.cs_model.specs.Keeps.{SameKept}
use Rattle.cs_model.proofs.Answering.{answered_moved}
use Rattle.cs_model.proofs.Keeping.{Keeps-trans}
use Rattle.cs_model.proofs.Same.{same}
use Rattle.cs_acts.proofs.Dropping.{same-equal}
use Rattle.cs_acts.proofs.Leading.{made-trans, names-trans}
use Rattle.cs_model.specs.Operation.{drop_of, push_of}
use Rattle.cs_model.specs.End.{Out}
use Rattle.cs_model.specs.PrimAnswer.{answer, answer_if}
use Rattle.cs_acts.specs.declared.prim.PrimEnd.{PrimEnd}
use Rattle.cs_acts.specs.declared.prim.PrimEnd.TheVariants as prim
use Rattle.cs_acts.specs.Layout.{Layout}
use Rattle.cs_acts.specs.Led.{Leads}
use Rattle.cs_acts.specs.Names.{NamesOption, Store, name_of}
use Rattle.cs_acts.specs.Ready.{IsReady}
use Rattle.cs_prim_ctx.specs.Answered.{PerformsInPlace}
use Rattle.cs_prim_ctx.proofs.Performing.{fails}

-- the row of a primitive in other words
pub as_row : {a c : Store} {l n : Option Layout} {k w : Kept} {end : PrimEnd} {o p : Out} → o ≡ p → PerformsInPlace a c l n k w end o → PerformsInPlace a c l n k w end p
as_row {a} {c} {l} {n} {k} {w} {end} e h = subst (PerformsInPlace a c l n k w end) e h

pub answered : (a c : Store) (l n : Option Layout) (k t w : Kept) (args : ℕ) (x : Ref) → Leads a c l n w (push_of (drop_of t (args + 1)) x) 0
    → PerformsInPlace a c l n k w prim.Answer (answer t args x)
unfolding answer
answered a c l n k t w args x led = record {
  gives = (refl, record { state = led.state; ready = led.ready; names = led.names });
  exact = led.exact;
  layout = led.layout;
  limit = led.limit;
  contexts = led.contexts;
}

pub answered_some : (a c : Store) (l n : Option Layout) (k w : Kept) (args : ℕ) (end : PrimEnd) (value : Oop) (x : Option Ref) → NamesOption a (Some value) x
    → PerformsInPlace a c l n k w end (answer k args (name_of a value)) → PerformsInPlace a c l n k w end (answer_if k args x)
answered_some a c l n k w args end value x names done = subst (λ y. PerformsInPlace a c l n k w end (answer_if k args y)) names.is done

pub answered_none : (s : Store) (l : Option Layout) (k : Kept) (args : ℕ) (x : Option Ref) → IsReady s k → NamesOption s None x
    → PerformsInPlace s s l l k k prim.Fail (answer_if k args x)
answered_none s l k args x ready names = fails s l k (answer_if k args x) ready (ap (answer_if k args) (sym names.is))

-- something is written, and then the value is answered
pub written : (a b c : Store) (l m n : Option Layout) (k v w t : Kept) (args : ℕ) (x : Ref) → Leads a b l m v t 0 → Leads b c m n w (push_of (drop_of v (args + 1)) x) 0 → IsHeld v x
    → PerformsInPlace a c l n k w prim.Answer (answer t args x)
unfolding answer
written a b c l m n k v w t args x first led held = answered a c l n k t w args x (record {
  state = Keeps-trans led.state (answered_moved first.state args (same x held)).keeps;
  exact = λ none. subst (λ u. SameKept w (push_of (drop_of u (args + 1)) x)) (same-equal v t (first.exact none)) (led.exact (first.layout ∙ none));
  layout = led.layout ∙ first.layout;
  limit = led.limit ∙ first.limit;
  contexts = made-trans l m a b c 0 0 first.layout first.contexts led.contexts;
  ready = led.ready;
  names = names-trans a b c first.names led.names;
})
