-- The frame of a method is a new frame, and its context is that of the model.
use Rattle.std.proofs.Common.{◌≡◌, ℕ, pos, ◌+◌, ◌-◌, ◌<◌, ◌≤◌, ◌^◌, Bool, refl, sym, ap, subst, ◌∙◌, arith, Some, List, ◌++◌, length, replicate, take, unwrap_or}
use Rattle.std.specs.Prelude.{slice_get, slice_index}
use Rattle.std.proofs.lemmas.List.{append-nil}
use Rattle.cs_word.specs.declared.Oop.{Oop}
use Rattle.cs_word.specs.Word.{small_word, natural_of_word}
use Rattle.cs_heap.specs.Object.{Object, slot_count_of}
use Rattle.cs_classes.specs.Meaning.{ref_of}
use Rattle.cs_classes.specs.Sound.{is_reference}
use Rattle.cs_classes.proofs.Refs.{count_of-small}
use Rattle.cs_frame.specs.declared.NewFrame.{NewFrame}
use Rattle.cs_frame.specs.Frame.{nil}
use Rattle.cs_marriage.specs.Agree.{header_at}
use Rattle.cs_model.specs.Ref.{Ref}
use Rattle.cs_model.specs.Obj.{context_size, header_in, temporary_count}
use Rattle.cs_model.specs.State.{Kept, object_of}
use Rattle.cs_model.specs.Context.{lies_if_index}
use Rattle.cs_model.specs.Enter.{copied_values}
use Rattle.cs_model.specs.Read.{active_context, stack_of}
use Rattle.cs_model.specs.Operation.{enter_of, enter_with, last_values, method_context, nil_of, receiver_below}
use Rattle.cs_acts.specs.Names.{IsNamed, name_of}
use Rattle.cs_acts.specs.Ready.{IsReady}
use Rattle.cs_acts.specs.Targets.{CanEnter}
use Rattle.cs_acts.proofs.Firsts.{nil_names}
use Rattle.cs_acts.proofs.Sizes.{pc_small}
use Rattle.cs_stack.specs.declared.parts.Parts.{Parts}
use Rattle.cs_stack.specs.View.{stored_of, view_of}
use Rattle.cs_stack.specs.Moved.{CanBegin, begun_context, begun_state, entry_of}
use Rattle.cs_stack.proofs.Tops.{Opened}
use Rattle.cs_stack.proofs.Entries.{Entry, code_there, entry}
use Rattle.cs_stack.proofs.Copies.{take_none}
use Rattle.cs_stack.proofs.Entering.{depth_read, value_name, value_named}
use Rattle.std.proofs.lemmas.Bool.{eq-eqb, or_left}
use Rattle.cs_model.specs.Context.{closure_class, has_class_index}
use Rattle.cs_model.specs.State.{is_nil}

-- this frame can be made, and this is the state then
pub record Begins (w : Parts) (new : NewFrame) (pc : Oop) (copies : ℕ) (t : Kept) : Type 0 where
  pub can : CanBegin (stored_of w) (view_of w) new pc copies
  pub state : begun_state (stored_of w) (view_of w) new pc copies ≡ t

module _ {w : Parts} (ready : IsReady (stored_of w) (view_of w)) (o : Opened w) (method : Oop) (args : ℕ) (skip : Bool)
    (named : IsNamed (stored_of w) method) (can : CanEnter (view_of w) (name_of (stored_of w) method) args skip) where
  abbrev os : List Object
  os = w.heap.objects

  abbrev k : Kept
  k = view_of w

  abbrev x : Ref
  x = name_of (stored_of w) method

  e : Entry os (object_of k x) method.0 args skip
  e = entry (stored_of w) k method args skip ready.sound.holds named can

  pub method_header : 0 < slot_count_of os method.0
  method_header = (code_there (stored_of w) k method ready.sound.holds named can.method).method.header

  pub enough : args < length o.f.stack
  enough = omega (arith, can.there, depth_read o)

  pub method_temporaries : args ≤ temporary_count (header_at os method.0)
  method_temporaries = subst (λ h. args ≤ temporary_count h) (sym e.header_is) e.few

  module _ (receiver : Oop) (fill : ℕ) (pc : Oop) (received : receiver.0 ≡ slice_index o.f.stack (length o.f.stack - (args + 1)))
      (filled : fill ≡ temporary_count (header_at os method.0) - args) (entered : pc.0 ≡ small_word (pos (entry_of (header_at os method.0) skip))) where
    abbrev new : NewFrame
    new = record { method = method; closure = record { 0 = nil }; receiver = receiver; birth = w.roots.next_birth; args = args; fill = fill }

    small : entry_of e.header skip < 2 ^ 30
    small = omega (arith, pc_small (stored_of w) k method (entry_of e.header skip) ready.sound.holds named e.lies)

    pc_is : natural_of_word pc.0 ≡ Some (entry_of e.header skip)
    pc_is = ap natural_of_word entered ∙ ap (λ h. natural_of_word (small_word (pos (entry_of h skip)))) e.header_is ∙ count_of-small (entry_of e.header skip) small

    temporaries : temporary_count (header_at os method.0) ≡ temporary_count (header_in (object_of k x))
    temporaries = ap temporary_count (e.header_is ∙ sym e.model_header)

    receiver_is : ref_of os receiver.0 ≡ receiver_below args (nil_of k) (stack_of k)
    receiver_is =
        ap (ref_of os) received ∙ value_name o (length o.f.stack - (args + 1)) (nil_of k) (omega (arith, enough))
        ∙ ap (λ n. unwrap_or (slice_get (stack_of k) (n - (args + 1))) (nil_of k)) (sym (depth_read o))

    nil_name : name_of (stored_of w) (record { 0 = nil }) ≡ nil_of k
    nil_name = (nil_names (stored_of w) k (record { 0 = nil }) ready.sound refl).is

    nils : replicate fill (nil_of k) ++ take 0 (copied_values k (name_of (stored_of w) (record { 0 = nil }))) ≡ replicate (temporary_count (header_in (object_of k x)) - args) (nil_of k)
    nils =
        ap (λ (xs : List Ref). replicate fill (nil_of k) ++ xs) (take_none (copied_values k (name_of (stored_of w) (record { 0 = nil }))))
        ∙ append-nil (replicate fill (nil_of k))
        ∙ ap (λ n. replicate n (nil_of k)) (filled ∙ ap (λ n. n - args) temporaries)

    same_context : begun_context (stored_of w) k new pc 0 ≡ method_context k x args skip (active_context k)
    same_context = λ i. record {
      hash = 0;
      sender = (method_context k x args skip (active_context k)).sender;
      pc = (pc_is ∙ ap (λ n. Some n) (sym e.pc)) i;
      method = x;
      closure = nil_name i;
      receiver = receiver_is i;
      stack = last_values args (stack_of k) ++ nils i;
      size = context_size (header_in (object_of k x));
    }

    same_state : begun_state (stored_of w) k new pc 0 ≡ enter_of k x args skip
    unfolding enter_of enter_with
    same_state = ap (λ c. enter_with k args (λ _. c)) same_context

    pub method_begins : Begins w new pc 0 (enter_of (view_of w) (name_of (stored_of w) method) args skip)
    method_begins = record {
      can = record {
        method = named;
        closure = (nil_names (stored_of w) k (record { 0 = nil }) ready.sound refl).sound;
        kind = or_left (is_nil k (name_of (stored_of w) (record { 0 = nil }))) (has_class_index closure_class (object_of k (name_of (stored_of w) (record { 0 = nil }))))
            (ap (is_nil k) nil_name ∙ eq-eqb k.rest.nil k.rest.nil refl);
        receiver = ap (is_reference os) received ∙ value_named o (length o.f.stack - (args + 1)) (omega (arith, enough));
        code = can.method;
        lies = ap (lies_if_index (object_of k x)) pc_is ∙ e.lies;
        copied = omega arith;
        there = can.there;
        fits = subst (λ h. args + (fill + 0) ≤ context_size h) (sym e.model_header)
            (omega (arith, filled, ap temporary_count e.header_is, e.few, e.fits));
        birth = refl;
        births = can.births;
      };
      state = same_state;
    }
