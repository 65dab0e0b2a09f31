-- A new context as the code makes it: what its calls ask for, and what its writes amount to.
use Rattle.std.proofs.Common.{◌≡◌, ℕ, pos, ◌+◌, ◌-◌, ◌/◌, ◌%◌, ◌^◌, ◌<◌, ◌≤◌, Bool, true, false, sym, ap, ap₂, subst, ◌∙◌, Some, None, Option, List, [], ◌∷◌, ◌++◌, length, take, drop, length-take, length-drop, arith}
use Rattle.std.specs.Prelude.{if◌then◌else◌, ◌==◌}
use Rattle.std.specs.Option.{option_map_or}
use Rattle.cs_word.specs.declared.Oop.{Oop}
use Rattle.cs_word.specs.Word.{small_word}
use Rattle.cs_heap.specs.Writes.{slot_stored, slots_stored}
use Rattle.cs_acts.proofs.Dirty.{names-dirtied, ready-dirtied}
use Rattle.cs_heap.specs.Object.{Memory, Object, is_object, new_object, next_address, size, slot_count_of, used, slot_set}
use Rattle.cs_heap.proofs.Laws.{field_of-new, field_of-old, length-new_words, next_address-new, slot_count_of-with_slot}
use Rattle.cs_classes.specs.Meaning.{depth_in}
use Rattle.cs_classes.proofs.Heaps.{is_object-object_at, object_there}
use Rattle.cs_classes.proofs.Wholes.{after_birth}
use Rattle.cs_model.specs.Obj.{context_size}
use Rattle.cs_model.specs.Read.{depth_of}
use Rattle.cs_acts.specs.Full.{IsFullHeap}
use Rattle.cs_acts.specs.Names.{KeepsNames}
use Rattle.cs_acts.specs.Ready.{IsReady}
use Rattle.cs_plain.specs.declared.Fields.{Fields}
use Rattle.cs_plain.specs.declared.PlainWorld.{PlainWorld}
use Rattle.cs_plain.specs.Calling.{CanCall, called_context, called_of, copied_words}
use Rattle.cs_plain.specs.Calling as calling
use Rattle.cs_plain.specs.Storing.{values_copied, with_fields}
use Rattle.cs_plain.specs.View.{plain_stored, plain_view}
use Rattle.cs_plain.proofs.Active.{Active, active_is}
use Rattle.cs_plain.proofs.Calling.{entered_names, entered_ready, entered_view, entered_words, with_entered}
use Rattle.cs_plain.proofs.Making.{context_object-is, context_words, context_added}
use Rattle.cs_plain.proofs.Written.{dirtied}
use Rattle.cs_plain.proofs.Slots.{depth_is_read, depth_within, few_slots, fields_within, slots_are}

-- ---- how many slots are there behind a call

count-fields : (h g : Memory) (a b : ℕ) (f : Fields) → g ≡ record h { objects = with_fields h.objects a f } → slot_count_of g.objects b ≡ slot_count_of h.objects b
count-fields h g a b f e =
    let o0 : List Object = slot_set h.objects a 0 f.sender.0 in
    let o1 : List Object = slot_set o0 a 1 f.pc.0 in
    let o2 : List Object = slot_set o1 a 2 f.stackp.0 in
    let o3 : List Object = slot_set o2 a 3 f.method.0 in
    let o4 : List Object = slot_set o3 a 4 f.closure.0 in
    ap (λ (m : Memory). slot_count_of m.objects b) e
    ∙ slot_count_of-with_slot o4 a 5 f.receiver.0 b ∙ slot_count_of-with_slot o3 a 4 f.closure.0 b ∙ slot_count_of-with_slot o2 a 3 f.method.0 b ∙ slot_count_of-with_slot o1 a 2 f.stackp.0 b
    ∙ slot_count_of-with_slot o0 a 1 f.pc.0 b ∙ slot_count_of-with_slot h.objects a 0 f.sender.0 b

count-old : (h g : Memory) (y : Object) (b : ℕ) → g ≡ record h { objects = h.objects ++ y ∷ [] } → is_object h.objects b ≡ true → slot_count_of g.objects b ≡ slot_count_of h.objects b
count-old h g y b e there = ap (λ (m : Memory). slot_count_of m.objects b) e ∙ field_of-old (λ (o : Object). length o.words) h.objects y b there

count-new : (h g : Memory) (a class format slots birth : ℕ) → g ≡ record h { objects = h.objects ++ new_object class format slots birth ∷ [] } → a ≡ next_address h.objects slots
    → slot_count_of g.objects a ≡ slots
count-new h g a class format slots birth e at =
    ap (λ (m : Memory). slot_count_of m.objects a) e
    ∙ field_of-new (λ (o : Object). length o.words) h.objects (new_object class format slots birth) a (next_address-new h.objects a class format slots birth at)
    ∙ length-new_words class format slots birth

-- ---- the writes, one behind another

-- the heap with the new context
abbrev made_objects : List Object → ℕ → ℕ → Fields → ℕ → ℕ → ℕ → ℕ → List Object
made_objects os slots birth f new left args n =
    slot_set (values_copied (values_copied (with_fields (os ++ new_object 36 3 slots birth ∷ []) new f) f.sender.0 (6 + left + 1) new 6 args) f.closure.0 3 new (6 + args) n) f.sender.0 2 (small_word (pos left))

pub written-heap : (h0 h1 h2 h3 h4 h5 : Memory) (slots birth : ℕ) (f : Fields) (a left args n v : ℕ)
    → h1 ≡ record h0 { objects = h0.objects ++ new_object 36 3 slots birth ∷ [] } → h2 ≡ record h1 { objects = with_fields h1.objects a f }
    → h3 ≡ record h2 { objects = values_copied h2.objects f.sender.0 (6 + left + 1) a 6 args } → h4 ≡ record h3 { objects = values_copied h3.objects f.closure.0 3 a (6 + args) n }
    → h5 ≡ slot_stored h4 f.sender.0 2 v → v ≡ small_word (pos left)
    → h5 ≡ slots_stored h0 f.sender.0 (made_objects h0.objects slots birth f a left args n)
written-heap h0 h1 h2 h3 h4 h5 slots birth f a left args n v e1 e2 e3 e4 e5 word =
    e5 ∙ ap (λ (m : Memory). slot_stored m f.sender.0 2 v) (e4 ∙ ap (λ (m : Memory). record m { objects = values_copied m.objects f.closure.0 3 a (6 + args) n })
    (e3 ∙ ap (λ (m : Memory). record m { objects = values_copied m.objects f.sender.0 (6 + left + 1) a 6 args }) (e2 ∙ ap (λ (m : Memory). record m { objects = with_fields m.objects a f }) e1)))
    ∙ ap (λ (u : ℕ). slots_stored h0 f.sender.0 (slot_set (values_copied (values_copied (with_fields (h0.objects ++ new_object 36 3 slots birth ∷ []) a f) f.sender.0 (6 + left + 1) a 6 args) f.closure.0 3 a (6 + args) n) f.sender.0 2 u)) word

-- ---- the call

pub record Enters (w v : PlainWorld) (header args n : ℕ) (f : Fields) : Type 0 where
  pub view : plain_view v ≡ called_of (plain_view w) args (called_context (plain_stored w) (plain_view w) header args n f)
  pub ready : IsReady (plain_stored v) (plain_view v)
  pub names : KeepsNames (plain_stored w) (plain_stored v)

enters-dirtied : {w v : PlainWorld} {header args n : ℕ} {f : Fields} (d : Bool) → Enters w v header args n f → Enters w (dirtied v d) header args n f
enters-dirtied {w = w} {v = v} d done = record { view = done.view; ready = ready-dirtied d done.ready; names = names-dirtied (plain_stored w) (plain_stored v) d done.names }

-- a context has at most 56 values
size_few : (header : ℕ) → context_size header ≤ 56
size_few header = go (header / 2 ^ 17 % 2 == 1)
  where
    go : (b : Bool) → (if b then 56 else 16) ≤ 56
    go true = omega arith
    go false = omega arith

module _ (w : PlainWorld) (header args n depth : ℕ) (f : Fields) (ready : IsReady (plain_stored w) (plain_view w)) (known : w.active ≡ Some f.sender)
    (fits : CanCall (plain_stored w) (plain_view w) header args n f) (deep : depth ≡ depth_of (plain_view w)) where
  abbrev x : Object
  x = (active_is w f.sender ready known).0

  active : Active w f.sender x
  active = (active_is w f.sender ready known).1

  abbrev left : ℕ
  left = depth - (args + 1)

  -- what the calls ask for

  pub depth_few : depth ≤ 56
  depth_few = omega (arith, deep, depth_within ready active, few_slots ready active)

  pub args_below : args + 1 ≤ depth
  args_below = omega (arith, deep, fits.there)

  pub stack_holds : args + n ≤ context_size header
  stack_holds = omega (arith, fits.holds, fits.fits)

  pub stack_few : args + n ≤ 56
  stack_few = omega (arith, stack_holds, size_few header)

  pub sender_slots : 6 + depth ≤ slot_count_of w.heap.objects f.sender.0
  sender_slots = omega (arith, deep, depth_within ready active, slots_are ready active, fields_within ready active)

  sender_there : is_object w.heap.objects f.sender.0 ≡ true
  sender_there = is_object-object_at w.heap.objects f.sender.0 x active.there

  pub copied_slots : 0 < n → 3 + n ≤ slot_count_of w.heap.objects f.closure.0
  copied_slots some =
      let y = object_there w.heap.objects f.closure.0 fits.closure in
      let count : slot_count_of w.heap.objects f.closure.0 ≡ length y.0.words = ap (λ (o : Option Object). option_map_or (λ (z : Object). length z.words) o 0) y.1 in
      let long : length (take n (drop 3 y.0.words)) ≡ n = ap (λ o. length (take n (drop 3 (calling.words_there o)))) (sym y.1) ∙ fits.values in
      omega (arith, some, count, long, length-take n (drop 3 y.0.words), length-drop 3 y.0.words)

  -- the slots behind the first two calls

  module _ (slots : ℕ) (count : slots ≡ 6 + context_size header) (h1 h2 : Memory) (a : Oop) (made : h1 ≡ record w.heap { objects = w.heap.objects ++ new_object 36 3 slots w.roots.next_birth ∷ [] })
      (at : a.0 ≡ next_address w.heap.objects slots) where
    pub new_slots : slot_count_of h1.objects a.0 ≡ 6 + context_size header
    new_slots = count-new w.heap h1 a.0 36 3 slots w.roots.next_birth made at ∙ count

    pub new_fields : h2 ≡ record h1 { objects = with_fields h1.objects a.0 f } → slot_count_of h2.objects a.0 ≡ 6 + context_size header
    new_fields e = count-fields h1 h2 a.0 a.0 f e ∙ new_slots

    old_fields : h2 ≡ record h1 { objects = with_fields h1.objects a.0 f } → (b : ℕ) → is_object w.heap.objects b ≡ true → slot_count_of h2.objects b ≡ slot_count_of w.heap.objects b
    old_fields e b there = count-fields h1 h2 a.0 b f e ∙ count-old w.heap h1 (new_object 36 3 slots w.roots.next_birth) b made there

    pub sender_still : h2 ≡ record h1 { objects = with_fields h1.objects a.0 f } → slot_count_of h2.objects f.sender.0 ≡ slot_count_of w.heap.objects f.sender.0
    sender_still e = old_fields e f.sender.0 sender_there

    pub closure_still : h2 ≡ record h1 { objects = with_fields h1.objects a.0 f } → slot_count_of h2.objects f.closure.0 ≡ slot_count_of w.heap.objects f.closure.0
    closure_still e = old_fields e f.closure.0 fits.closure

  -- what its writes amount to

  module _ (slots : ℕ) (count : slots ≡ 6 + context_size header) where
    pub full : w.heap.limit < used w.heap.objects + size slots → (h : Memory) → h ≡ w.heap
        → IsFullHeap (plain_stored (record w { heap = h })) None 0 (called_of (plain_view w) args (called_context (plain_stored w) (plain_view w) header args n f))
    full over h same = record {
      words = omega (arith, ap (λ (g : Memory). g.limit) same, over, ap size count, entered_words header args n f ready active fits);
      room = tt;
    }

    pub enters : (h : Memory) (new : Oop) → new.0 ≡ next_address w.heap.objects slots → (w.heap.limit < used w.heap.objects + size slots → ⊥)
        → h ≡ slots_stored w.heap f.sender.0 (made_objects w.heap.objects slots w.roots.next_birth f new.0 left args n)
        → Enters w (record w { heap = h; roots = after_birth w.roots; active = Some new }) header args n f
    enters h new at room e =
        let os = w.heap.objects in
        let d : ℕ = depth_in x.words in
        let csize : ℕ = context_size header in
        let y = object_there os f.closure.0 fits.closure in
        let more : List ℕ = copied_words os f.closure.0 n in
        let read : take n (drop 3 y.0.words) ≡ more = ap (λ o. take n (drop 3 (calling.words_there o))) (sym y.1) in
        let next : new.0 ≡ next_address os (6 + csize) = at ∙ ap (next_address os) count in
        let same : depth ≡ d = deep ∙ sym (depth_is_read ready active) in
        let at : ℕ = 6 + (d - (args + 1)) + 1 in
        let old : List Object = slot_set os f.sender.0 2 (small_word (pos (d - (args + 1)))) in
        let part : List ℕ = take args (drop at x.words) in
        let objects : List Object = old ++ record (new_object 36 3 (6 + csize) w.roots.next_birth) { words = context_words f part more (csize - (args + n)) } ∷ [] in
        let heap : h ≡ slots_stored w.heap f.sender.0 objects =
        e
        ∙ ap₂ (λ (k l : ℕ). slots_stored w.heap f.sender.0 (made_objects os k w.roots.next_birth f new.0 (l - (args + 1)) args n)) count same
        ∙ ap (slots_stored w.heap f.sender.0) (context_added os x y.0 f new.0 f.sender.0 f.closure.0 at args n csize w.roots.next_birth (small_word (pos (d - (args + 1)))) active.there y.1 next)
        ∙ ap (λ (z : Object). slots_stored w.heap f.sender.0 (old ++ z ∷ []))
        (context_object-is f x.words y.0.words at args n csize w.roots.next_birth (omega (arith, same, args_below, sender_slots, slots_are ready active)) (ap length read ∙ fits.values) stack_holds
        ∙ ap (λ us. record (new_object 36 3 (6 + csize) w.roots.next_birth) { words = context_words f part us (csize - (args + n)) }) read) in
        let done : Enters w (with_entered w objects new) header args n f = record {
          view = entered_view header args n f ready active fits new next;
          ready = entered_ready header args n f ready active fits new next (omega (arith, room, ap size count));
          names = entered_names header args n f ready active fits new;
        } in
        subst (λ (g : Memory). Enters w (record w { heap = g; roots = after_birth w.roots; active = Some new }) header args n f) (sym heap) (enters-dirtied (slots_stored w.heap f.sender.0 objects).dirty done)
