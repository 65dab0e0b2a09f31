-- A block is entered, or not.
use Rattle.std.proofs.Common.{◌≡◌, ◌∙◌, ℕ, ◌+◌, ◌-◌, ◌<◌, ◌≤◌, Bool, true, false, inr, refl, sym, ap, subst, arith, Option, None, length, nat_le}
use Rattle.std.specs.Prelude.{if◌then◌else◌}
use Rattle.std.proofs.lemmas.Bool.Decides.{nat_tests}
use Rattle.cs_word.specs.declared.Oop.{Oop}
use Rattle.cs_model.specs.declared.stop.Stop.TheVariants as why
use Rattle.cs_model.specs.Ref.{Ref}
use Rattle.cs_model.specs.Obj.{context_size, header_in}
use Rattle.cs_model.specs.State.{Kept, object_of}
use Rattle.cs_model.specs.Keeps.{Keeps, SameKept}
use Rattle.cs_model.specs.Enter.{block_size, context_words, copied_values, enter_block_of, enter_block_out}
use Rattle.cs_model.specs.End.{Out, made_context, out, stop}
use Rattle.cs_model.specs.End as ends
use Rattle.cs_acts.specs.declared.act.Full.{Full as Why}
use Rattle.cs_acts.specs.declared.act.Full.TheVariants.{Heap, Stack}
use Rattle.cs_acts.specs.declared.prim.PrimEnd.TheVariants as prim
use Rattle.cs_acts.specs.Full.{CausesFull}
use Rattle.cs_acts.specs.Layout.{LaidBy, Layout, entered}
use Rattle.cs_acts.specs.Made.{MakesAtMost, made_by_entering}
use Rattle.cs_acts.specs.Names.{KeepsNames, Store, name_of}
use Rattle.cs_acts.specs.Primed.{EndsWithout}
use Rattle.cs_acts.specs.Ready.{IsReady}
use Rattle.cs_unwind.specs.Blocks.{Evaluates}
use Rattle.cs_unwind.specs.Performed.{Performs}
use Rattle.cs_unwind.proofs.Performing.{made_none, same_names}

-- what the model gives where arguments and copied values fit
record EntersBlock (k : Kept) (x : Ref) (args : ℕ) (o : Out) : Type 0 where
  end : o.end ≡ ends.Entered
  state : o.state ≡ enter_block_of k x args
  objects : o.count.objects ≡ 0

enters : (k : Kept) (x : Ref) (args : ℕ) → nat_le (args + length (copied_values k x)) (block_size k x) ≡ true → EntersBlock k x args (enter_block_out k x args)
unfolding enter_block_out made_context
enters k x args e =
    subst (λ (b : Bool). EntersBlock k x args (if b then made_context (context_words (block_size k x)) (out ends.Entered (enter_block_of k x args)) else stop why.StackOver k)) (sym e)
    (record { end = refl; state = refl; objects = refl })

pub fits_block : (s : Store) (k : Kept) (x : Ref) (args size copied : ℕ) (m : Oop) → Evaluates s k x args m → size ≡ context_size (header_in (object_of k (name_of s m))) → copied ≡ length (copied_values k x) → args ≤ size → copied ≤ size - args
    → args + length (copied_values k x) ≤ block_size k x
fits_block s k x args size copied m block is count less more =
    let same : block_size k x ≡ size = sym (is ∙ ap (λ r. context_size (header_in (object_of k r))) block.method.is) in
    omega (arith, same, count, less, more)

pub entered_block : (a b : Store) (l n : Option Layout) (k v : Kept) (x : Ref) (args : ℕ) → args + length (copied_values k x) ≤ block_size k x → Keeps v (enter_block_of k x args) → (l ≡ None → SameKept v (enter_block_of k x args))
    → LaidBy (entered k k.rest.next) l n → b.memory.limit ≡ a.memory.limit → MakesAtMost (made_by_entering k l) l a b → IsReady b v → KeepsNames a b → Performs a b l n k k v prim.Entered (enter_block_out k x args)
entered_block a b l n k v x args fits state exact laid limit made ready names =
    let e = enters k x args (grind (arith, nat_tests, fits)) in
    record {
      gives = (e.end, record { state = subst (Keeps v) (sym e.state) state; ready = ready; names = names });
      exact = λ none. subst (SameKept v) (sym e.state) (exact none);
      layout = laid;
      limit = limit;
      contexts = made;
    }

entered_without : (why : Why) (end : ends.End) → end ≡ ends.Entered → EndsWithout why end
entered_without Heap end e = inr e
entered_without Stack end e = e

pub no_room : (a b : Store) (l n : Option Layout) (k v : Kept) (x : Ref) (args : ℕ) (why : Why) → args + length (copied_values k x) ≤ block_size k x → b.memory.limit ≡ a.memory.limit → CausesFull b l k 0 (enter_block_of k x args) why
    → Performs a b l n k k v (prim.Full why) (enter_block_out k x args)
no_room a b l n k v x args why fits limit cause =
    let e = enters k x args (grind (arith, nat_tests, fits)) in
    record {
      gives = (entered_without why _ e.end, subst (λ t. CausesFull b l k (enter_block_out k x args).count.objects t why) (sym e.state) (subst (λ m. CausesFull b l k m (enter_block_of k x args) why) (sym e.objects) cause));
      exact = tt;
      layout = tt;
      limit = limit;
      contexts = tt;
    }

stops : (k : Kept) (x : Ref) (args : ℕ) → nat_le (args + length (copied_values k x)) (block_size k x) ≡ false → enter_block_out k x args ≡ stop why.StackOver k
unfolding enter_block_out
stops k x args e = ap (λ (b : Bool). (if b then made_context (context_words (block_size k x)) (out ends.Entered (enter_block_of k x args)) else stop why.StackOver k)) e

pub over : (s : Store) (l : Option Layout) (k : Kept) (x : Ref) (args : ℕ) → IsReady s k → block_size k x < args + length (copied_values k x) → Performs s s l l k k k (prim.Stop why.StackOver) (enter_block_out k x args)
over s l k x args ready less =
    let e : enter_block_out k x args ≡ stop why.StackOver k = stops k x args (grind (arith, nat_tests, less)) in
    record {
      gives = (ap (λ (o : Out). o.end) e, record { state = subst (λ (o : Out). Keeps k o.state) (sym e) ready.sound.closed; ready = ready; names = same_names s });
      exact = λ none. subst (λ (o : Out). SameKept k o.state) (sym e) (record { objects = λ i. refl; rest = refl });
      layout = refl;
      limit = refl;
      contexts = made_none l s;
    }

pub size_is : (s : Store) (k : Kept) (x : Ref) (args size : ℕ) (m : Oop) → Evaluates s k x args m → size ≡ context_size (header_in (object_of k (name_of s m))) → block_size k x ≡ size
size_is s k x args size m block is = sym (is ∙ ap (λ r. context_size (header_in (object_of k r))) block.method.is)
