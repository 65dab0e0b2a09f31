-- What is built is said of the very sends that an instruction leads to, and of the primitives of the methods that they find.
use Rattle.std.proofs.Common.{◌≡◌, ◌≢◌, ℕ, ◌==◌, Bool, true, false, refl, ap, ◌∙◌, Option, Some, None, option_and_then, option_map, nat_lt, if◌then◌else◌}
use Rattle.cs_model.specs.declared.stop.Stop.TheVariants as why
use Rattle.cs_model.specs.Ref.{Ref}
use Rattle.cs_model.specs.Obj.{header_in, bytecodes_in, argument_count, primitive_number}
use Rattle.cs_model.specs.State.{Kept, object_of, special_at}
use Rattle.cs_model.specs.Read.{depth_of}
use Rattle.cs_model.specs.Lookup.{Sought}
use Rattle.cs_model.specs.Lookup as sought
use Rattle.cs_model.specs.Send.{enter_out, offer, invoke, begins_at, look_from, send_found, send}
use Rattle.cs_model.specs.Return.{back}
use Rattle.cs_model.specs.Step.{Message, message_in, return_in, primitive_in, call_in}
use Rattle.cs_model.specs.Shallow.{Sending, sending_of_call, sending_from}
use Rattle.cs_model.specs.Built.{is_built_number, is_built_method, is_built_found, is_built_send, is_built_call, is_built_back, is_built_return, is_built_out}
use Rattle.cs_model.specs.End.{Out, stop, made_context, given}

-- ---- the same sends

abbrev of_sending : Option Sending → Bool
of_sending o = given o true (λ a. is_built_send a.state a.message)

call_built : (o : Out) → is_built_back o ≡ given (sending_of_call o) true (λ a. is_built_send a.state a.message)
call_built o = go (call_in o.end) where
  to : (args : ℕ) (x : Option Ref) → given x true (λ selector. is_built_send o.state (record { selector = selector; args = args; above = None })) ≡ of_sending (option_map (λ selector. record { state = o.state; message = record { selector = selector; args = args; above = None } }) x)
  to args None = refl
  to args (Some x) = refl

  go : (c : Option (ℕ × ℕ)) → given c true (λ c. is_built_call o.state c.0 c.1) ≡ of_sending (option_and_then (λ c. option_map (λ selector. record { state = o.state; message = record { selector = selector; args = c.1; above = None } }) (special_at o.state c.0)) c)
  go None = refl
  go (Some c) = to c.1 (special_at o.state c.0)

pub out_built : (o : Out) → is_built_out o ≡ given (sending_from o) true (λ a. is_built_send a.state a.message)
out_built o = go (message_in o.end) (return_in o.end) where
  go : (m : Option Message) (p : Option (Ref × Bool)) → given m (given p true (λ p. is_built_return o.state p.0 p.1)) (λ m. is_built_send o.state m) ≡ of_sending (given m (option_and_then (λ p. sending_of_call (back o.state p.0 p.1)) p) (λ m. Some (record { state = o.state; message = m })))
  go (Some m) p = refl
  go None (Some p) = call_built (back o.state p.0 p.1)
  go None None = refl

-- ---- the method that a send finds

-- a primitive that is offered is judged by its number
abbrev by_number : Kept → ℕ → Out → Bool
by_number k args o = given (primitive_in o.end) true (λ p. is_built_number k args (Some p.1))

enter_offered : (k : Kept) (x : Ref) (args : ℕ) → true ≡ by_number k args (enter_out k x args false)
unfolding enter_out made_context
enter_offered k x args = refl

method_offered : (k : Kept) (x : Ref) (args : ℕ) → is_built_method k x args ≡ by_number k args (invoke k x args)
unfolding invoke
method_offered k x args = go (argument_count (header_in (object_of k x)) == args) (primitive_number (header_in (object_of k x)) (bytecodes_in (object_of k x))) where
  go : (b : Bool) (n : Option ℕ) → (if b then is_built_number k args n else true) ≡ by_number k args (if b then offer k x args n else stop why.BadArgs k)
  go true None = enter_offered k x args
  go true (Some n) = refl
  go false n = refl

pub send_offered : (k : Kept) (m : Message) → look_from k m.selector (begins_at k m.args m.above) ≢ sought.Missing → is_built_send k m ≡ given (primitive_in (send k m.selector m.args m.above).end) true (λ p. is_built_number k m.args (Some p.1))
unfolding send
send_offered k m h = go (nat_lt m.args (depth_of k)) (look_from k m.selector (begins_at k m.args m.above)) h where
  go : (b : Bool) (l : Sought) → l ≢ sought.Missing → (if b then is_built_found k m.args l else true) ≡ by_number k m.args (if b then send_found k m.selector m.args l else stop why.StackUnder k)
  go true (sought.Method x) g = method_offered k x m.args
  go true sought.Missing g = absurd (g refl)
  go true sought.Loop g = refl
  go false l g = refl

pub missing_unbuilt : (k : Kept) (m : Message) → nat_lt m.args (depth_of k) ≡ true → look_from k m.selector (begins_at k m.args m.above) ≡ sought.Missing → is_built_send k m ≡ false
missing_unbuilt k m e h = ap (λ b. if b then is_built_found k m.args (look_from k m.selector (begins_at k m.args m.above)) else true) e ∙ ap (λ l. is_built_found k m.args l) h
