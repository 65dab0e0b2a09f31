-- What a send comes to, by what it finds.
use Rattle.std.proofs.Common.{◌≡◌, ℕ, ◌≤◌, Bool, true, false, refl, sym, subst, ◌∙◌, arith, Option, None, Result, Ok, Err, OnOk, IfErr}
use Rattle.std.proofs.lemmas.Bool.{false≢true}
use Rattle.std.proofs.lemmas.Option.{none-some}
use Rattle.cs_word.specs.declared.Oop.{Oop}
use Rattle.cs_model.specs.declared.stop.Stop.{Stop as Reason}
use Rattle.cs_model.specs.Ref.{Ref}
use Rattle.cs_model.specs.Obj.{is_method}
use Rattle.cs_model.specs.State.{Kept, object_of}
use Rattle.cs_model.specs.Keeps.{Keeps, SameKept}
use Rattle.cs_model.specs.End as ends
use Rattle.cs_model.specs.End.{made_context}
use Rattle.cs_model.specs.Operation.{enter_of}
use Rattle.cs_model.specs.Send.{enter_out}
use Rattle.cs_model.specs.Step.{Message}
use Rattle.cs_acts.specs.declared.act.Full.{Full}
use Rattle.cs_acts.specs.Full.{CausesFull}
use Rattle.cs_acts.specs.Layout.{LaidBy, Layout, entered}
use Rattle.cs_acts.specs.Made.{MakesAtMost, made_by_entering}
use Rattle.cs_acts.specs.Names.{Store, KeepsNames, name_of}
use Rattle.cs_acts.specs.Ready.{IsReady}
use Rattle.cs_acts.specs.Targets.{CanEnter}
use Rattle.cs_acts.specs.Reading.{IsMethodNamed}
use Rattle.cs_send.specs.Resolved.{Offered, Plain, Stops}
use Rattle.cs_send.specs.Sent.{Enters, Halts, IsPlainMethod, Offers, RefusesSend, found, message_sent, stopped}
use Rattle.cs_send.proofs.Sends.{offered-fits, offered-number, plain-fits, send-offered, send-plain, send-stops}

-- ---- entering

enter-end : (k : Kept) (x : Ref) (args : ℕ) (skip : Bool) → (enter_out k x args skip).end ≡ ends.Entered
unfolding enter_out made_context
enter-end k x args skip = refl

enter-state : (k : Kept) (x : Ref) (args : ℕ) (skip : Bool) → (enter_out k x args skip).state ≡ enter_of k x args skip
unfolding enter_out made_context
enter-state k x args skip = refl

module _ (k v : Kept) (x : Ref) (args : ℕ) (skip : Bool) where
  pub enters : {A : Type 0} (old new : Store) (before after : Option Layout) (r : Result A Full) → Keeps k k
      → OnOk r ((m : Kept) → Keeps k m → Keeps v (enter_of m x args skip)) → OnOk r (before ≡ None → SameKept v (enter_of k x args skip)) → OnOk r (LaidBy (entered k k.rest.next) before after) → OnOk r (MakesAtMost (made_by_entering k before) before old new) → OnOk r (IsReady new v) → OnOk r (KeepsNames old new)
      → OnOk r (Enters old new before after k v (enter_out k x args skip))
  enters old new before after (Ok a) closed state exact laid contexts ready names =
      let is = sym (enter-state k x args skip) in
      record { end = enter-end k x args skip; state = subst (Keeps v) is (state k closed); exact = λ none. subst (SameKept v) is (exact none); ready = ready; names = names; laid = laid; contexts = contexts }
  enters old new before after (Err e) closed state exact laid contexts ready names = tt

pub refuses : {A : Type 0} (k : Kept) (x : Ref) (args : ℕ) (skip : Bool) (new : Store) (before : Option Layout) (r : Result A Full)
    → IfErr r (CausesFull new before k 0 (enter_of k x args skip)) → IfErr r (RefusesSend new before k (enter_out k x args skip))
refuses k x args skip new before (Ok a) cause = tt
refuses k x args skip new before (Err e) cause =
    record { end = enter-end k x args skip; cause = subst (λ t. CausesFull new before k 0 t e) (sym (enter-state k x args skip)) cause }

-- ---- what is found

module _ (k : Kept) (m : Message) (births : k.rest.next ≤ 4611686018427387896) where
  pub enters_plain : (x : Ref) → found k m ≡ Plain x → is_method (object_of k x) ≡ true → CanEnter k x m.args false
  enters_plain x e method =
      let f = plain-fits k m.selector m.args m.above x e in
      record { method = method; count = f.takes; there = f.below; marked = λ no. absurd (false≢true no); births = omega (arith, births) }

  pub offers : (s : Store) (o : Oop) (number : ℕ) → Offered (name_of s o) number ≡ found k m → IsMethodNamed s k o → Offers s k m o number
  offers s o number e method =
      let f = offered-fits k m.selector m.args m.above (name_of s o) number (sym e) in
      let is = offered-number k m.selector m.args m.above (name_of s o) number (sym e) in
      record {
        found = sym e;
        is = send-offered k m.selector m.args m.above (name_of s o) number (sym e);
        method = method;
        enters = record { method = method.method; count = f.takes; there = f.below; marked = λ yes none. none-some number (sym none ∙ is); births = omega (arith, births) };
      }

pub sent_plain : (k : Kept) (m : Message) (x : Ref) → found k m ≡ Plain x → enter_out k x m.args false ≡ message_sent k m
sent_plain k m x e = sym (send-plain k m.selector m.args m.above x e)

pub is_plain : (k : Kept) (m : Message) (x : Ref) → Plain x ≡ found k m → IsPlainMethod (found k m)
is_plain k m x e = subst IsPlainMethod e tt

pub halts : (k : Kept) (m : Message) (reason : Reason) → Stops reason ≡ found k m → Halts k m reason
halts k m reason e = stopped (sym e) (send-stops k m.selector m.args m.above reason (sym e))
