-- One call behind another.
use Rattle.std.proofs.Common.{◌≡◌, ◌∙◌, ℕ, ◌+◌, subst, arith, Option, Some, None}
use Rattle.cs_model.specs.State.{Kept}
use Rattle.cs_model.specs.Keeps.{Keeps, SameKept}
use Rattle.cs_acts.specs.Layout.{Layout}
use Rattle.cs_acts.specs.Made.{MakesAtMost}
use Rattle.cs_acts.specs.Names.{KeepsNames, Store}
use Rattle.cs_acts.specs.Ready.{IsReady}
use Rattle.cs_acts.specs.Led.{Leads}
use Rattle.cs_acts.proofs.Dropping.{same-equal}

pub names-trans : (a b c : Store) → KeepsNames a b → KeepsNames b c → KeepsNames a c
names-trans a b c f g = λ o named. let h = f o named in let i = g o h.sound in record { sound = i.sound; is = i.is ∙ h.is }

pub made-trans : (l m : Option Layout) (a b c : Store) (i j : ℕ) → m ≡ l → MakesAtMost i l a b → MakesAtMost j m b c → MakesAtMost (i + j) l a c
made-trans None m a b c i j e f g = tt
made-trans (Some l) m a b c i j e f g =
    let h : MakesAtMost j (Some l) b c = subst (λ o. MakesAtMost j o b c) e g in
    omega (arith, f, h)

-- an operation on a state to which the world was led
pub then : (a b c : Store) (l m n : Option Layout) (v w t : Kept) (i j : ℕ) (op : Kept → Kept) → Leads a b l m v t i
    → ((u : Kept) → Keeps v u → Keeps w (op u)) → (m ≡ None → SameKept w (op v)) → n ≡ m → c.memory.limit ≡ b.memory.limit → MakesAtMost j m b c → IsReady c w → KeepsNames b c
    → Leads a c l n w (op t) (i + j)
then a b c l m n v w t i j op led state exact layout limit made ready names = record {
  state = state t led.state;
  exact = λ none. subst (λ u. SameKept w (op u)) (same-equal v t (led.exact none)) (exact (led.layout ∙ none));
  layout = layout ∙ led.layout;
  limit = limit ∙ led.limit;
  contexts = made-trans l m a b c i j led.layout led.contexts made;
  ready = ready;
  names = names-trans a b c led.names names;
}

-- nothing is done, and then something
pub along : (a b c : Store) (l m n : Option Layout) (v w t : Kept) (i j : ℕ) → Leads a b l m v v i → Leads b c m n w t j → Leads a c l n w t (i + j)
along a b c l m n v w t i j first led = record {
  state = led.state;
  exact = λ none. led.exact (first.layout ∙ none);
  layout = led.layout ∙ first.layout;
  limit = led.limit ∙ first.limit;
  contexts = made-trans l m a b c i j first.layout first.contexts led.contexts;
  ready = led.ready;
  names = names-trans a b c first.names led.names;
}
