-- The fields of contexts: those of a frame, and those of a context that has none.
use Rattle.std.proofs.Common.{◌≡◌, ◌≢◌, ℕ, zero, suc, ◌+◌, ◌-◌, ◌<◌, ◌≤◌, ◌^◌, Bool, true, false, refl, sym, ap, subst, ◌∙◌, Option, Some, None, IsSome, IfSome, IfOk, OnOk, Result, Ok, Err, is_some, List, drop, length, map, take, unwrap_or, option_and_then, option_map, arith, inl, inr}
use Rattle.std.specs.Prelude.{◌==◌, ◌&&◌, ◌||◌, if◌then◌else◌, negsuc, pos, slice_get, slice_index}
use Rattle.std.proofs.lemmas.Bool.{cases_lt, ne_eqb}
use Rattle.std.proofs.lemmas.Bool.Decides.{eqb_tells}
use Rattle.std.proofs.lemmas.List.{get_or-drop, get_or-take, length-map}
use Rattle.std.proofs.lemmas.List.Elements.{All-get_or}
use Rattle.std.proofs.lemmas.Option.{slice_get-get_or, slice_get-map, slice_get_within}
use Rattle.cs_word.specs.declared.Kind.{Kind}
use Rattle.cs_word.specs.declared.Kind.TheVariants as kind
use Rattle.cs_word.specs.declared.Oop.{Oop}
use Rattle.cs_word.specs.Word.{kind_of, small_word, natural_by_kind, natural_of_word}
use Rattle.cs_heap.specs.Object.{Object, slot_of}
use Rattle.cs_classes.specs.Meaning.{context_of, depth_in, ref_of, ref_of_kind}
use Rattle.cs_classes.specs.Sound.{is_reference, is_reference_kind, nil_word as heap_nil}
use Rattle.cs_frame.specs.declared.FrameRef.{FrameRef}
use Rattle.cs_frame.specs.Page.{IsBase}
use Rattle.cs_classes.proofs.Refs.{is_reference-object, is_reference-small, ref_of-small, small_natural}
use Rattle.cs_classes.proofs.Sounds.{sound_at}
use Rattle.cs_frame.specs.Frame.{Frame, nil}
use Rattle.cs_frame.specs.Page.{frame}
use Rattle.cs_marriage.specs.Place.{names_place}
use Rattle.cs_model.specs.Ref.{Ref}
use Rattle.cs_model.specs.Ref as ref
use Rattle.cs_model.specs.Obj.{Context, context_in}
use Rattle.cs_model.specs.State.{Kept, object_at}
use Rattle.cs_model.specs.Return.{context_at, context_birth}
use Rattle.cs_acts.specs.Targets.{field_of}
use Rattle.cs_model.specs.Operation.{nil_of}
use Rattle.cs_model.specs.Context.{closure_class, context_get, is_context_ref, pc_value}
use Rattle.cs_acts.specs.declared.act.Act.TheVariants as act
use Rattle.cs_acts.specs.Names.{IsNamed, Names, NamesOption, Store, name_of}
use Rattle.cs_acts.proofs.Firsts.{nil_names}
use Rattle.cs_stack.specs.declared.parts.Parts.{Parts}
use Rattle.cs_stack.specs.View.{act_of, dead_words, frame_context, is_linked, stored_of, unframed, view_of}
use Rattle.cs_stack.specs.Good.{IsGood}
use Rattle.cs_stack.specs.Moved.{field_at}
use Rattle.cs_stack.proofs.Closed.{good_sound}
use Rattle.cs_stack.proofs.Acts.{Below, ContextAct, FrameAct, answers, base_sender, context_reads, depth_kept, field_named, frame_lives, frame_method_named, frame_reads, kept_depth, kept_pc, kept_word, reads_field, slot_is, slot_named, sender_below, stack_counted}
use Rattle.cs_stack.proofs.Places.{size_few}
use Rattle.cs_stack.proofs.Spouses.{sender_dead}
use Rattle.cs_stack.proofs.Addresses.{nil_or_named}

-- ---- words

-- a word that is a number names that number
pub record IsCount (os : List Object) (v n : ℕ) : Type 0 where
  pub named : is_reference os v ≡ true
  pub is : ref_of os v ≡ ref.Small (pos n)

pub count_named : (os : List Object) (v n : ℕ) → natural_of_word v ≡ Some n → IsCount os v n
unfolding natural_of_word ref_of is_reference
count_named os v n h = go (kind_of v) refl h
  where
    go : (k : Kind) → kind_of v ≡ k → natural_by_kind k ≡ Some n → IsCount os v n
    go (kind.Small (pos m)) e h =
        let same : m ≡ n = cc in
        record { named = ap (is_reference_kind os) e; is = ap (ref_of_kind os) e ∙ ap (λ i. ref.Small (pos i)) same }
    go (kind.Small (negsuc m)) e h = absurd (cc)
    go (kind.Character code) e h = absurd (cc)
    go (kind.Object address) e h = absurd (cc)
    go (kind.Link word) e h = absurd (cc)

pub small_count : (os : List Object) (v n : ℕ) → v ≡ small_word (pos n) → n < 2 ^ 30 → IsCount os v n
small_count os v n e few = record {
  named = ap (is_reference os) e ∙ is_reference-small os (pos n) (small_natural n few);
  is = ap (ref_of os) e ∙ ref_of-small os (pos n) (small_natural n few);
}

pub names_some_of : (s : Store) (o : Oop) (x : Ref) (y : Option Ref) → IsNamed s o → name_of s o ≡ x → y ≡ Some x → NamesOption s (Some o) y
names_some_of s o x y sound is e = record { sound = sound; is = ap Some is ∙ sym e }

-- ---- answers

pub some_if : {A : Type 0} (P : A → Type 0) (o : Option A) (x : A) → o ≡ Some x → IfSome o P → P x
some_if P o x e p = subst (λ q. IfSome q P) e p

pub ok_map : {A E : Type 0} (P Q : A → Type 0) (r : Result A E) → ((x : A) → P x → Q x) → IfOk r P → IfOk r Q
ok_map P Q (Ok x) f p = f x p
ok_map P Q (Err e) f p = tt

pub on_ok : {A E P : Type 0} (r : Result A E) → P → OnOk r P
on_ok (Ok x) p = p
on_ok (Err e) p = tt

-- ---- the fields of a context

pub get_sender : (k : Kept) (c : Context) → context_get k c 0 ≡ Some c.sender
unfolding context_get
get_sender k c = refl

pub get_pc : (k : Kept) (c : Context) → context_get k c 1 ≡ Some (pc_value (nil_of k) c.pc)
unfolding context_get
get_pc k c = refl

pub get_depth : (k : Kept) (c : Context) → context_get k c 2 ≡ Some (ref.Small (pos (length c.stack)))
unfolding context_get
get_depth k c = refl

pub get_method : (k : Kept) (c : Context) → context_get k c 3 ≡ Some c.method
unfolding context_get
get_method k c = refl

pub get_closure : (k : Kept) (c : Context) → context_get k c 4 ≡ Some c.closure
unfolding context_get
get_closure k c = refl

pub get_receiver : (k : Kept) (c : Context) → context_get k c 5 ≡ Some c.receiver
unfolding context_get
get_receiver k c = refl

pub get_value : (k : Kept) (c : Context) (i : ℕ) → 6 ≤ i → context_get k c i ≡ slice_get c.stack (i - 6)
unfolding context_get
get_value k c i h =
    rw (
      ne_eqb i 0 (λ e. omega (arith, e, h)),
      ne_eqb i 1 (λ e. omega (arith, e, h)),
      ne_eqb i 2 (λ e. omega (arith, e, h)),
      ne_eqb i 3 (λ e. omega (arith, e, h)),
      ne_eqb i 4 (λ e. omega (arith, e, h)),
      ne_eqb i 5 (λ e. omega (arith, e, h)),
    ) refl

some_within : {A : Type 0} (xs : List A) (k : ℕ) → IsSome (slice_get xs k) → k < length xs
some_within {A = A} xs k h = go (slice_get xs k) refl h
  where
    go : (o : Option A) → slice_get xs k ≡ o → IsSome o → k < length xs
    go None e s = absurd (cc)
    go (Some x) e s = slice_get_within xs k x e

pub mapped_at : (g : ℕ → Ref) (xs : List ℕ) (k : ℕ) → k < length xs → slice_get (map g xs) k ≡ Some (g (slice_index xs k))
mapped_at g xs k l = slice_get-map g xs k ∙ ap (option_map g) (slice_get-get_or xs k 0 l)

-- a field of what a reference names, by the birth of that
pub field_by_birth : (k : Kept) (x : Ref) (i : ℕ) → field_of k x i ≡ field_at k (context_birth k x) i
field_by_birth k (ref.Small n) i = refl
field_by_birth k (ref.Char n) i = refl
field_by_birth k (ref.Obj b) i = go (context_in (object_at k b)) refl
  where
    go : (d : Option Context) → context_in (object_at k b) ≡ d → option_and_then (λ c. context_get k c i) d ≡ field_at k (option_and_then (λ c. Some b) d) i
    go None e = refl
    go (Some c) e = sym (ap (λ q. option_and_then (λ c. context_get k c i) q) e)

-- a context has the field
pub field_context : (k : Kept) (x : Ref) (i : ℕ) → IsSome (field_of k x i) → is_context_ref k x ≡ true
field_context k x i h = go (context_at k x) h
  where
    go : (d : Option Context) → IsSome (option_and_then (λ c. context_get k c i) d) → is_some d ≡ true
    go None h = absurd (cc)
    go (Some c) h = refl

-- ---- of a frame

module _ {w : Parts} {p at : ℕ} (good : IsGood w) (a : FrameAct w p at) where
  abbrev f : Frame
  f = a.begins_at.f

  abbrev c : Context
  c = frame_context w.heap.objects a.begins_at.f a.begins_at.gs

  pub frame_field : (i : ℕ) → field_at (view_of w) (act_of w (act.Frame p at)) i ≡ context_get (view_of w) (frame_context w.heap.objects a.begins_at.f a.begins_at.gs) i
  frame_field i = ap (λ o. field_at (view_of w) o i) a.answers ∙ reads_field (frame_reads good a) i

  names : (v : Oop) (i : ℕ) (x : Ref) → is_reference w.heap.objects v.0 ≡ true → ref_of w.heap.objects v.0 ≡ x → context_get (view_of w) c i ≡ Some x
      → NamesOption (stored_of w) (Some v) (field_at (view_of w) (act_of w (act.Frame p at)) i)
  names v i x named is e = names_some_of (stored_of w) v x _ named is (frame_field i ∙ e)

  pub frame_get_pc : (v : Oop) → v.0 ≡ (frame w.frames (record { page = p; at = at })).saved_pc → NamesOption (stored_of w) (Some v) (field_at (view_of w) (act_of w (act.Frame p at)) 1)
  unfolding frame_context
  frame_get_pc v e =
      let l = frame_lives good a in
      let word : v.0 ≡ f.saved_pc = e ∙ ap (λ (g : Frame). g.saved_pc) a.is in
      let n = count_named w.heap.objects v.0 l.pc (ap natural_of_word word ∙ l.at_is) in
      names v 1 (ref.Small (pos l.pc)) n.named n.is (get_pc (view_of w) c ∙ ap (λ o. Some (pc_value (nil_of (view_of w)) o)) l.at_is)

  pub frame_get_depth : (v : Oop) (n : ℕ) → n ≡ length (frame w.frames (record { page = p; at = at })).stack → v.0 ≡ small_word (pos n) → n < 2 ^ 30
      → NamesOption (stored_of w) (Some v) (field_at (view_of w) (act_of w (act.Frame p at)) 2)
  unfolding frame_context
  frame_get_depth v n depth e few =
      let s = small_count w.heap.objects v.0 n e few in
      let long : n ≡ length (map (ref_of w.heap.objects) f.stack) = depth ∙ ap (λ (g : Frame). length g.stack) a.is ∙ sym (length-map f.stack (ref_of w.heap.objects)) in
      names v 2 (ref.Small (pos n)) s.named s.is (get_depth (view_of w) c ∙ ap (λ m. Some (ref.Small (pos m))) (sym long))

  pub depth_small : (n : ℕ) → n ≡ length (frame w.frames (record { page = p; at = at })).stack → n < 2 ^ 30
  depth_small n depth = omega (arith, depth, ap (λ (g : Frame). length g.stack) a.is, a.fits.fits, size_few w good p a.begins_at.on)

  pub frame_get_method : (v : Oop) → v.0 ≡ (frame w.frames (record { page = p; at = at })).method → NamesOption (stored_of w) (Some v) (field_at (view_of w) (act_of w (act.Frame p at)) 3)
  unfolding frame_context
  frame_get_method v e =
      let word : v.0 ≡ f.method = e ∙ ap (λ (g : Frame). g.method) a.is in
      names v 3 c.method (ap (is_reference w.heap.objects) word ∙ frame_method_named good a) (ap (ref_of w.heap.objects) word) (get_method (view_of w) c)

  pub frame_get_closure : (v : Oop) → v.0 ≡ (frame w.frames (record { page = p; at = at })).closure → NamesOption (stored_of w) (Some v) (field_at (view_of w) (act_of w (act.Frame p at)) 4)
  unfolding frame_context
  frame_get_closure v e =
      let word : v.0 ≡ f.closure = e ∙ ap (λ (g : Frame). g.closure) a.is in
      names v 4 c.closure (ap (is_reference w.heap.objects) word ∙ nil_or_named closure_class w.heap.objects a.begins_at.f.closure a.fits.names.closure) (ap (ref_of w.heap.objects) word) (get_closure (view_of w) c)

  pub frame_get_receiver : (v : Oop) → v.0 ≡ (frame w.frames (record { page = p; at = at })).receiver → NamesOption (stored_of w) (Some v) (field_at (view_of w) (act_of w (act.Frame p at)) 5)
  unfolding frame_context
  frame_get_receiver v e =
      let word : v.0 ≡ f.receiver = e ∙ ap (λ (g : Frame). g.receiver) a.is in
      names v 5 c.receiver (ap (is_reference w.heap.objects) word ∙ a.fits.names.receiver) (ap (ref_of w.heap.objects) word) (get_receiver (view_of w) c)

  -- a value of its stack is there
  pub frame_value_within : (i : ℕ) → 6 ≤ i → IsSome (field_at (view_of w) (act_of w (act.Frame p at)) i) → i - 6 < length (frame w.frames (record { page = p; at = at })).stack
  unfolding frame_context
  frame_value_within i h some =
      let there : IsSome (slice_get (map (ref_of w.heap.objects) f.stack) (i - 6)) = sym (ap is_some (frame_field i ∙ get_value (view_of w) c i h)) ∙ some in
      omega (arith, some_within (map (ref_of w.heap.objects) f.stack) (i - 6) there, length-map f.stack (ref_of w.heap.objects), ap (λ (g : Frame). length g.stack) a.is)

  pub frame_get_value : (v : Oop) (i : ℕ) → 6 ≤ i → i - 6 < length (frame w.frames (record { page = p; at = at })).stack → v.0 ≡ slice_index (frame w.frames (record { page = p; at = at })).stack (i - 6)
      → NamesOption (stored_of w) (Some v) (field_at (view_of w) (act_of w (act.Frame p at)) i)
  unfolding frame_context
  frame_get_value v i h l e =
      let word : v.0 ≡ slice_index f.stack (i - 6) = e ∙ ap (λ (g : Frame). slice_index g.stack (i - 6)) a.is in
      let within : i - 6 < length f.stack = omega (arith, l, ap (λ (g : Frame). length g.stack) a.is) in
      names v i (ref_of w.heap.objects (slice_index f.stack (i - 6)))
      (ap (is_reference w.heap.objects) word ∙ All-get_or (λ (u : ℕ). is_reference w.heap.objects u ≡ true) f.stack (i - 6) 0 within a.fits.names.stack)
      (ap (ref_of w.heap.objects) word) (get_value (view_of w) c i h ∙ mapped_at (ref_of w.heap.objects) f.stack (i - 6) within)

-- the sender is the context of the frame below, or what the base frame keeps
module _ {w : Parts} {p at : ℕ} (good : IsGood w) (a : FrameAct w p at) where
  pub frame_get_below : (v : Parts) (o : Oop) {g : FrameRef} (b : Below good a g) → Names (stored_of v) o (ref.Obj b.h.birth) → NamesOption (stored_of v) (Some o) (field_at (view_of w) (act_of w (act.Frame p at)) 0)
  frame_get_below v o b n =
      names_some_of (stored_of v) o (ref.Obj b.h.birth) _ n.sound n.is
      (frame_field good a 0 ∙ get_sender (view_of w) (frame_context w.heap.objects a.begins_at.f a.begins_at.gs) ∙ ap Some (sender_below good a b))

  pub frame_get_base : IsBase w.frames (record { page = p; at = at }) → (v : Oop) → v.0 ≡ (frame w.frames (record { page = p; at = at })).caller
      → NamesOption (stored_of w) (Some v) (field_at (view_of w) (act_of w (act.Frame p at)) 0)
  frame_get_base base v e =
      let s = base_sender good a base v e in
      names_some_of (stored_of w) v (ref_of w.heap.objects v.0) _ s.0 refl
      (frame_field good a 0 ∙ get_sender (view_of w) (frame_context w.heap.objects a.begins_at.f a.begins_at.gs) ∙ ap Some s.1)

-- ---- of a context that has no frame

module _ {w : Parts} {a : ℕ} (good : IsGood w) (c : ContextAct w a) (o : Oop) (is_o : o.0 ≡ a) where
  abbrev words : List ℕ
  words = (unframed c.x).words

  abbrev context : Context
  context = context_of (ref_of w.heap.objects) (unframed c.x).hash (unframed c.x).words

  word_field : (i : ℕ) → field_at (view_of w) (act_of w (act.Context o)) i ≡ context_get (view_of w) context i
  word_field i = ap (λ q. field_at (view_of w) q i) (answers c o is_o) ∙ reads_field (context_reads c) i

  names_word : (v : Oop) (i : ℕ) (x : Ref) → is_reference w.heap.objects v.0 ≡ true → ref_of w.heap.objects v.0 ≡ x → context_get (view_of w) context i ≡ Some x
      → NamesOption (stored_of w) (Some v) (field_at (view_of w) (act_of w (act.Context o)) i)
  names_word v i x named is e = names_some_of (stored_of w) v x _ named is (word_field i ∙ e)

  -- a value of its stack
  pub word_value_within : (i : ℕ) → 6 ≤ i → IsSome (field_at (view_of w) (act_of w (act.Context o)) i) → i - 6 < length context.stack
  word_value_within i h some = some_within context.stack (i - 6) (sym (ap is_some (word_field i ∙ get_value (view_of w) context i h)) ∙ some)

  pub word_within : (i : ℕ) → IsSome (field_at (view_of w) (act_of w (act.Context o)) i) → i < length c.x.words
  word_within i some = elim (cases_lt i 6) [
    | inl l ↦ omega (arith, l, c.whole.fields)
    | inr h ↦ omega (arith, h, word_value_within i h some, stack_counted c, depth_kept c.x c.whole.fields c.links, c.whole.depth, c.whole.fields)
  ]

  pub stack_at : (i : ℕ) → 6 ≤ i → i - 6 < length context.stack → slice_get context.stack (i - 6) ≡ Some (ref_of w.heap.objects (slice_index words i))
  unfolding context_of
  stack_at i h l =
      let depth : i - 6 < depth_in words = omega (arith, l, stack_counted c) in
      let taken = take (depth_in words) (drop 6 words) in
      let back : 6 + (i - 6) ≡ i = omega (arith, h) in
      mapped_at (ref_of w.heap.objects) taken (i - 6) (omega (arith, l, length-map taken (ref_of w.heap.objects)))
      ∙ ap (λ n. Some (ref_of w.heap.objects n)) (get_or-take (depth_in words) (drop 6 words) (i - 6) 0 depth ∙ get_or-drop 6 words (i - 6) 0 ∙ ap (slice_index words) back)

  pub word_get_value : (v : Oop) (i : ℕ) → 6 ≤ i → IsSome (field_at (view_of w) (act_of w (act.Context o)) i) → v.0 ≡ slot_of w.heap.objects a i
      → NamesOption (stored_of w) (Some v) (field_at (view_of w) (act_of w (act.Context o)) i)
  word_get_value v i h some e =
      let within = word_value_within i h some in
      names_word v i (ref_of w.heap.objects (slice_index words i)) (slot_named c i v.0 (word_within i some) e) (ap (ref_of w.heap.objects) (kept_word c i v.0 (omega (arith, h)) e))
      (get_value (view_of w) context i h ∙ stack_at i h within)

  pub word_get_place : (v : Oop) (u : ℕ) → v.0 ≡ nil → u ≡ slot_of w.heap.objects a 0 → names_place u ≡ true → NamesOption (stored_of w) (Some v) (field_at (view_of w) (act_of w (act.Context o)) 0)
  unfolding context_of
  word_get_place v u e read place =
      let linked : is_linked c.x ≡ true = ap (λ b. b && names_place (slice_index c.x.words 0)) c.context ∙ ap names_place (sym (read ∙ slot_is c 0)) ∙ place in
      let dead : slice_index words 0 ≡ nil = ap (λ b. slice_index (if b then record c.x { words = dead_words c.x.words } else c.x).words 0) linked ∙ sender_dead c.x.words c.whole.fields in
      names_word v 0 context.sender (ap (is_reference w.heap.objects) e ∙ is_reference-object w.heap.objects nil good.agree.nil_there) (ap (ref_of w.heap.objects) (e ∙ sym dead)) (get_sender (view_of w) context)

  pub word_get_sender : (v : Oop) → v.0 ≡ slot_of w.heap.objects a 0 → names_place v.0 ≡ false → NamesOption (stored_of w) (Some v) (field_at (view_of w) (act_of w (act.Context o)) 0)
  unfolding context_of
  word_get_sender v e place =
      let free : is_linked c.x ≡ false = ap (λ b. b && names_place (slice_index c.x.words 0)) c.context ∙ ap names_place (sym (e ∙ slot_is c 0)) ∙ place in
      let same : slice_index words 0 ≡ slice_index c.x.words 0 = ap (λ b. slice_index (if b then record c.x { words = dead_words c.x.words } else c.x).words 0) free in
      names_word v 0 context.sender (field_named c 0 v.0 (omega arith) e) (ap (ref_of w.heap.objects) (e ∙ slot_is c 0 ∙ sym same)) (get_sender (view_of w) context)

  pub depth_few : (v : ℕ) → v ≡ slot_of w.heap.objects a 2 → unwrap_or (natural_of_word v) 0 < 2 ^ 30
  depth_few v e =
      let s = (sound_at w.heap.objects a c.x good.whole.heap c.there).context c.context in
      omega (arith, kept_depth c v e, depth_kept c.x c.whole.fields c.links, c.whole.depth, words_few c.x s.slots)
    where
      words_few : (x : Object) → (length x.words == 22 || length x.words == 62) ≡ true → length x.words ≤ 62
      words_few x h = elim (eqb_tells (length x.words) 22) [
        | inl e ↦ omega (arith, e.1)
        | inr e ↦ elim (eqb_tells (length x.words) 62) [
          | inl t ↦ omega (arith, t.1)
          | inr t ↦ absurd (let no : false ≡ true = sym (ap (λ b. b || length x.words == 62) e.0 ∙ t.0) ∙ h in cc)
        ]
      ]

  pub word_get_depth : (v : Oop) (u : ℕ) → u ≡ slot_of w.heap.objects a 2 → v.0 ≡ small_word (pos (unwrap_or (natural_of_word u) 0)) → NamesOption (stored_of w) (Some v) (field_at (view_of w) (act_of w (act.Context o)) 2)
  word_get_depth v u read e =
      let s = small_count w.heap.objects v.0 (unwrap_or (natural_of_word u) 0) e (depth_few u read) in
      names_word v 2 (ref.Small (pos (unwrap_or (natural_of_word u) 0))) s.named s.is (get_depth (view_of w) context ∙ ap (λ n. Some (ref.Small (pos n))) (stack_counted c ∙ sym (kept_depth c u read)))

  pub word_get_pc : (v : Oop) → v.0 ≡ slot_of w.heap.objects a 1 → NamesOption (stored_of w) (Some v) (field_at (view_of w) (act_of w (act.Context o)) 1)
  unfolding context_of
  word_get_pc v e = go (natural_of_word v.0) refl
    where
      pc_is : context.pc ≡ natural_of_word v.0
      pc_is = ap natural_of_word (sym (kept_pc c v.0 e))

      or_right : (b d : Bool) → (b || d) ≡ true → d ≡ false → b ≡ true
      or_right true d h k = refl
      or_right false d h k = absurd (cc)

      go : (q : Option ℕ) → natural_of_word v.0 ≡ q → NamesOption (stored_of w) (Some v) (field_at (view_of w) (act_of w (act.Context o)) 1)
      go (Some n) h =
          let s = count_named w.heap.objects v.0 n h in
          names_word v 1 (ref.Small (pos n)) s.named s.is (get_pc (view_of w) context ∙ ap (λ q. Some (pc_value (nil_of (view_of w)) q)) (pc_is ∙ h))
      go None h =
          let s = (sound_at w.heap.objects a c.x good.whole.heap c.there).context c.context in
          let word : v.0 ≡ slice_index c.x.words 1 = e ∙ slot_is c 1 in
          let first : (slice_index c.x.words 1 == heap_nil w.heap.objects) ≡ true = or_right _ (is_some (natural_of_word (slice_index c.x.words 1))) s.pc (ap is_some (ap natural_of_word (sym word) ∙ h)) in
          let is_nil : v.0 ≡ nil = elim (eqb_tells (slice_index c.x.words 1) (heap_nil w.heap.objects)) [
            | inl t ↦ word ∙ t.1 ∙ good.whole.nil
            | inr t ↦ absurd (let no : true ≡ false = sym first ∙ t.0 in cc)
          ] in
          let n = nil_names (stored_of w) (view_of w) v (good_sound w good) is_nil in
          names_word v 1 (nil_of (view_of w)) n.sound n.is (get_pc (view_of w) context ∙ ap (λ q. Some (pc_value (nil_of (view_of w)) q)) (pc_is ∙ h))

  pub word_get_method : (v : Oop) → v.0 ≡ slot_of w.heap.objects a 3 → NamesOption (stored_of w) (Some v) (field_at (view_of w) (act_of w (act.Context o)) 3)
  unfolding context_of
  word_get_method v e = names_word v 3 context.method (field_named c 3 v.0 (omega arith) e) (ap (ref_of w.heap.objects) (kept_word c 3 v.0 (omega arith) e)) (get_method (view_of w) context)

  pub word_get_closure : (v : Oop) → v.0 ≡ slot_of w.heap.objects a 4 → NamesOption (stored_of w) (Some v) (field_at (view_of w) (act_of w (act.Context o)) 4)
  unfolding context_of
  word_get_closure v e = names_word v 4 context.closure (field_named c 4 v.0 (omega arith) e) (ap (ref_of w.heap.objects) (kept_word c 4 v.0 (omega arith) e)) (get_closure (view_of w) context)

  pub word_get_receiver : (v : Oop) → v.0 ≡ slot_of w.heap.objects a 5 → NamesOption (stored_of w) (Some v) (field_at (view_of w) (act_of w (act.Context o)) 5)
  unfolding context_of
  word_get_receiver v e = names_word v 5 context.receiver (field_named c 5 v.0 (omega arith) e) (ap (ref_of w.heap.objects) (kept_word c 5 v.0 (omega arith) e)) (get_receiver (view_of w) context)

  -- the word is the field: all but the stackp, and the sender where it names a place
  pub word_get_other : (v : Oop) (i : ℕ) → i ≢ 0 → i ≢ 2 → IsSome (field_at (view_of w) (act_of w (act.Context o)) i) → v.0 ≡ slot_of w.heap.objects a i
      → NamesOption (stored_of w) (Some v) (field_at (view_of w) (act_of w (act.Context o)) i)
  word_get_other v zero other two some e = absurd (other refl)
  word_get_other v (suc zero) other two some e = word_get_pc v e
  word_get_other v (suc (suc zero)) other two some e = absurd (two refl)
  word_get_other v (suc (suc (suc zero))) other two some e = word_get_method v e
  word_get_other v (suc (suc (suc (suc zero)))) other two some e = word_get_closure v e
  word_get_other v (suc (suc (suc (suc (suc zero))))) other two some e = word_get_receiver v e
  word_get_other v (suc (suc (suc (suc (suc (suc i)))))) other two some e = word_get_value v (suc (suc (suc (suc (suc (suc i)))))) (omega arith) some e
