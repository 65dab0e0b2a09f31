-- What a primitive on numbers comes to: an answer or a failure.
use Rattle.std.proofs.Common.{◌≡◌, refl, sym, subst, arith, Option, Some, None}
use Rattle.cs_model.specs.Ref.{Ref}
use Rattle.cs_model.specs.State.{Kept}
use Rattle.cs_model.specs.Operation.{drop_of, push_of}
use Rattle.cs_model.specs.End.{Out}
use Rattle.cs_model.specs.PrimAnswer.{answer, fail}
use Rattle.cs_acts.specs.declared.prim.PrimEnd.TheVariants as prim
use Rattle.cs_acts.specs.Layout.{Layout}
use Rattle.cs_acts.specs.Led.{Leads}
use Rattle.cs_acts.specs.Made.{MakesAtMost}
use Rattle.cs_acts.specs.Names.{KeepsNames, Store}
use Rattle.cs_acts.specs.Ready.{IsReady}
use Rattle.cs_prim_num.specs.Answered.{PerformsOnNumbers}

same_names : (s : Store) → KeepsNames s s
same_names s = λ o named. record { sound = named; is = refl }

made_none : (l : Option Layout) (s : Store) → MakesAtMost 0 l s s
made_none None s = tt
made_none (Some l) s = omega arith

pub fails : (s : Store) (l : Option Layout) (k : Kept) (o : Out) → IsReady s k → o ≡ fail k → PerformsOnNumbers s s l l k k prim.Fail o
fails s l k o ready e = subst (PerformsOnNumbers s s l l k k prim.Fail) (sym e) (record {
  gives = (refl, refl, record { state = ready.sound.closed; ready = ready; names = same_names s });
  ends = tt;
  exact = λ none. record { objects = λ i. refl; rest = refl };
  layout = refl;
  limit = refl;
  contexts = made_none l s;
})

answered : (a b : Store) (l m : Option Layout) (k v : Kept) (x : Ref) → Leads a b l m v (push_of (drop_of k 2) x) 0 → PerformsOnNumbers a b l m k v prim.Answer (answer k 1 x)
unfolding answer
answered a b l m k v x led = record {
  gives = (refl, record { state = led.state; ready = led.ready; names = led.names });
  ends = tt;
  exact = led.exact;
  layout = led.layout;
  limit = led.limit;
  contexts = led.contexts;
}

pub answers : (a b : Store) (l m : Option Layout) (k v : Kept) (x : Ref) (o : Out) → Leads a b l m v (push_of (drop_of k 2) x) 0 → o ≡ answer k 1 x → PerformsOnNumbers a b l m k v prim.Answer o
answers a b l m k v x o led e = subst (PerformsOnNumbers a b l m k v prim.Answer) (sym e) (answered a b l m k v x led)
