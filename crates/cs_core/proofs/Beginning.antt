-- How a step begins: what the code has read, and what it has done of the instruction.
use Rattle.std.proofs.Common.{◌≡◌, inl, inr, ℕ, ◌+◌, ◌-◌, ◌<◌, ◌≤◌, Bool, true, false, refl, sym, ap, subst, ◌∙◌, arith, Option, Some, None, List, length, option_map, nat_lt, nat_le, IfSome, ◌*◌}
use Rattle.std.specs.Prelude.{◌&&◌, if◌then◌else◌, slice_index}
use Rattle.std.proofs.lemmas.Bool.Decides.{nat_tests}
use Rattle.cs_word.specs.declared.Oop.{Oop}
use Rattle.cs_model.specs.declared.stop.Stop.TheVariants as why
use Rattle.cs_model.specs.declared.instruction.Instr.{Instr}
use Rattle.cs_model.specs.declared.instruction.Op.{Op}
use Rattle.cs_model.specs.Obj.{Obj, Ptr, Raw, Method, Ctx, bytecodes_in, first_pc, lies_in, literals_in}
use Rattle.cs_model.specs.State.{Kept}
use Rattle.cs_model.specs.Keeps.{Keeps}
use Rattle.cs_model.specs.Alike.{Alike, IsHeldIf}
use Rattle.cs_model.specs.Read.{IsRunning, method_of, pc_of}
use Rattle.cs_model.specs.Operation.{set_pc_of}
use Rattle.cs_model.specs.Decode.{decode_at, len_of, op_of}
use Rattle.cs_model.specs.Exec.{exec}
use Rattle.cs_model.specs.End as ends
use Rattle.cs_model.specs.End.{Count, End, stop}
use Rattle.cs_model.specs.Step.{birth_limit, instruction_at}
use Rattle.cs_model.specs.Built.{is_built_op}
use Rattle.cs_model.proofs.Building.{is_built_op_same}
use Rattle.cs_model.proofs.Keeping.{Keeps-trans}
use Rattle.cs_model.proofs.Same.{equal}
use Rattle.cs_model.proofs.Executing.{exec_alike}
use Rattle.cs_heap.specs.Object.{used}
use Rattle.cs_acts.specs.declared.act.Full.{Full as Why}
use Rattle.cs_acts.specs.declared.act.Full.TheVariants.{Heap}
use Rattle.cs_acts.specs.Full.{CausesFull, IsFullHeap}
use Rattle.cs_acts.specs.Layout.{Layout}
use Rattle.cs_acts.specs.Names.{IsNamed, Store, name_of}
use Rattle.cs_acts.specs.Ready.{Holds}
use Rattle.cs_acts.proofs.Held.{named_held}
use Rattle.cs_code.specs.Built.{built_exec}
use Rattle.cs_code.specs.Gives.{IsMade, Refuses}
use Rattle.cs_core.proofs.Laying.{state_words_kept}
use Rattle.cs_core.proofs.Turning.{effect, past}

-- ---- births

beyond : (n m : ℕ) → 4611686018427387840 < n → m ≡ n → nat_lt birth_limit m ≡ true
beyond n m h e = grind (arith, nat_tests)

within : (n m : ℕ) → n ≤ 4611686018427387840 → m ≡ n → nat_lt birth_limit m ≡ false
within n m h e = grind (arith, nat_tests)

pub births_beyond : (k : Kept) (n : ℕ) → n ≡ k.rest.next → 4611686018427387840 < n → nat_lt birth_limit k.rest.next ≡ true
births_beyond k n is more = beyond n k.rest.next more (sym is)

pub births_left : (k : Kept) (n : ℕ) → n ≡ k.rest.next → n ≤ 4611686018427387840 → nat_lt birth_limit k.rest.next ≡ false
births_left k n is few = within n k.rest.next few (sym is)

-- ---- the pc behind an instruction

fitting : (bs : List ℕ) (at : ℕ) (i : Instr) → decode_at bs at ≡ Some i → at + i.len ≤ length bs
unfolding decode_at
fitting bs at i e = go (nat_le (at + len_of (slice_index bs at)) (length bs)) refl e
  where
    o : Option Op
    o = op_of (slice_index bs at) (slice_index bs (at + 1)) (slice_index bs (at + 2)) (slice_index bs (at + 3))

    len_is : (x : Option Op) → option_map (λ (y : Op). let j : Instr = record { op = y; len = len_of (slice_index bs at) } in j) x ≡ Some i → i.len ≡ len_of (slice_index bs at)
    len_is None h = absurd (cc)
    len_is (Some x) h = len_in h
      where
        len_if : Option Instr → ℕ
        len_if None = 0
        len_if (Some j) = j.len

        len_in : Some (let j : Instr = record { op = x; len = len_of (slice_index bs at) } in j) ≡ Some i → i.len ≡ len_of (slice_index bs at)
        len_in t = sym (ap len_if t)

    go : (t : Bool) → nat_le (at + len_of (slice_index bs at)) (length bs) ≡ t
        → (if t then option_map (λ (y : Op). let j : Instr = record { op = y; len = len_of (slice_index bs at) } in j) o else None) ≡ Some i → at + i.len ≤ length bs
    go false p q = absurd (cc)
    go true p q =
        let fits : at + len_of (slice_index bs at) ≤ length bs = grind (arith, nat_tests) in
        omega (arith, fits, len_is o q)

between : (first count pc len : ℕ) → (nat_le first pc && nat_le pc (first + count)) ≡ true → pc - first + len ≤ count → (nat_le first (pc + len) && nat_le (pc + len) (first + count)) ≡ true
between first count pc len h fits = go (nat_le first pc) (nat_le pc (first + count)) refl refl h
  where
    go : (a b : Bool) → nat_le first pc ≡ a → nat_le pc (first + count) ≡ b → (a && b) ≡ true → (nat_le first (pc + len) && nat_le (pc + len) (first + count)) ≡ true
    go true true p q t =
        let one : first ≤ pc = grind (arith, nat_tests, p) in
        let left : nat_le first (pc + len) ≡ true = grind (arith, nat_tests) in
        let right : nat_le (pc + len) (first + count) ≡ true = grind (arith, nat_tests) in
        rw (left, right)
    go false b p q t = absurd (cc)
    go true false p q t = absurd (cc)

lies_past : (o : Option Obj) (pc : ℕ) (i : Instr) → lies_in o pc ≡ true → decode_at (bytecodes_in o) (pc - first_pc (literals_in o)) ≡ Some i → lies_in o (pc + i.len) ≡ true
lies_past None pc i h e = absurd (cc)
lies_past (Some (Ptr head slots)) pc i h e = absurd (cc)
lies_past (Some (Raw head bytes)) pc i h e = absurd (cc)
lies_past (Some (Method head header literals bytecodes)) pc i h e = between (first_pc literals) (length bytecodes) pc i.len h (fitting bytecodes (pc - first_pc literals) i e)
lies_past (Some (Ctx c)) pc i h e = absurd (cc)

pub lies_behind : (k : Kept) (i : Instr) → IsRunning k → instruction_at k ≡ Some i → lies_in (method_of k) (pc_of k + i.len) ≡ true
unfolding instruction_at
lies_behind k i h e = lies_past (method_of k) (pc_of k) i h.method e

-- ---- what the instruction did

-- it is built, and this is how it ends and a state that is kept by what it leaves; or it isn't, and stops
pub data Executed (k : Kept) (i : Instr) (v : Kept) (e : End) : Type 0 where
  did : is_built_op i.op (past k i) ≡ true → (effect k i).end ≡ e → Keeps v (effect k i).state → Executed k i v e
  did_not : is_built_op i.op (past k i) ≡ false → e ≡ ends.Stopped why.NotBuilt → Executed k i v e

pub executed : (k u v : Kept) (i : Instr) (pc : ℕ) (e : End) → pc ≡ pc_of k + i.len → ((m : Kept) → Keeps k m → Keeps u (set_pc_of m pc)) → Keeps k k
    → e ≡ (built_exec i.op u).end → Keeps v (built_exec i.op u).state → Executed k i v e
unfolding built_exec
executed k u v i pc e at moved closed end keeps = go (is_built_op i.op u) refl end keeps
  where
    start : Keeps u (past k i)
    start = subst (λ n. Keeps u (set_pc_of k n)) at (moved k closed)

    a : Alike u (exec i.op u) (effect k i)
    a = exec_alike i.op start

    built : is_built_op i.op (past k i) ≡ is_built_op i.op u
    built = equal (is_built_op_same start i.op)

    go : (b : Bool) → is_built_op i.op u ≡ b → e ≡ (if b then exec i.op u else stop why.NotBuilt u).end → Keeps v (if b then exec i.op u else stop why.NotBuilt u).state → Executed k i v e
    go true h end keeps = did (built ∙ h) (sym a.end ∙ sym end) (Keeps-trans keeps a.keeps)
    go false h end keeps = did_not (built ∙ h) end

-- it is built, and done in the model or stopped behind what it makes, and the heap has no room for what it makes or looks at
pub record Refused (s : Store) (l : Option Layout) (k : Kept) (i : Instr) (why : Why) : Type 0 where
  pub op : is_built_op i.op (past k i) ≡ true
  pub made : IsMade (effect k i)
  pub heap : why ≡ Heap
  pub cause : CausesFull s l k (effect k i).count.objects (effect k i).state Heap

pub refused : (s : Store) (l : Option Layout) (k u : Kept) (i : Instr) (pc : ℕ) (reason : Why) → pc ≡ pc_of k + i.len → ((m : Kept) → Keeps k m → Keeps u (set_pc_of m pc)) → Keeps k k
    → Refuses s l u (built_exec i.op u) reason → Refused s l k i reason
unfolding built_exec
refused s l k u i pc reason at moved closed h = go (is_built_op i.op u) refl h
  where
    start : Keeps u (past k i)
    start = subst (λ n. Keeps u (set_pc_of k n)) at (moved k closed)

    a : Alike u (exec i.op u) (effect k i)
    a = exec_alike i.op start

    made : (exec i.op u).count.objects ≡ (effect k i).count.objects
    made = ap (λ (c : Count). c.objects) a.count

    cause : IsFullHeap s l (exec i.op u).count.objects (exec i.op u).state → IsFullHeap s l (effect k i).count.objects (effect k i).state
    cause c = record {
      words = omega (arith, c.words, state_words_kept (exec i.op u).state (effect k i).state a.keeps);
      room = subst (λ n. IfSome l (λ laid. s.memory.limit < used s.memory.objects + n + 26304 * laid.most)) made c.room;
    }

    made_too : IsMade (exec i.op u) → IsMade (effect k i)
    made_too (inl end) = inl (sym a.end ∙ end)
    made_too (inr (end, some)) = inr (sym a.end ∙ end, omega (arith, some, made))

    nothing_made : IsMade (stop why.NotBuilt u) → ⊥
    nothing_made (inl end) = absurd (let no : ends.Stopped why.NotBuilt ≡ ends.Done = end in cc)
    nothing_made (inr (end, some)) = absurd (omega (arith, some))

    go : (b : Bool) → is_built_op i.op u ≡ b → Refuses s l u (if b then exec i.op u else stop why.NotBuilt u) reason → Refused s l k i reason
    go true op r = record {
      op = equal (is_built_op_same start i.op) ∙ op;
      made = made_too r.end;
      heap = r.heap_alone;
      cause = cause (subst (CausesFull s l u (exec i.op u).count.objects (exec i.op u).state) r.heap_alone r.cause);
    }
    go false op r = absurd (nothing_made r.end)

-- ---- what a message names

pub held_above : (s : Store) (k : Kept) (o : Option Oop) → Holds s k → IfSome o (λ x. IsNamed s x) → IsHeldIf k (option_map (λ x. name_of s x) o)
held_above s k None h named = tt
held_above s k (Some x) h named = named_held s k x h named
