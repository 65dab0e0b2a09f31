-- What is left of a frame that had a context: in the heap without frames that context is dead.
use Rattle.std.proofs.Common.{◌≡◌, ◌≢◌, ℕ, pos, ◌-◌, ◌<◌, ◌≤◌, true, refl, sym, ap, ◌∙◌, arith, Option, Some, None, List, length, length-set, map, take, drop, get_or-set_same, get_or-set_other, set, unwrap_or}
use Rattle.std.specs.Prelude.{slice_index, if◌then◌else◌, ◌&&◌}
use Rattle.std.specs.Option.{option_map_or}
use Rattle.std.specs.Ordering.{nat_cmp}
use Rattle.std.specs.FinMap.{FinMap, get}
use Rattle.std.proofs.lemmas.Bool.{ne_eqb}
use Rattle.cs_word.specs.Word.{small_word, natural_of_word}
use Rattle.cs_heap.specs.Object.{Object, hash_at, heap_object, slot_count_of, slot_of}
use Rattle.cs_classes.specs.declared.Roots.{Roots}
use Rattle.cs_classes.specs.Meaning.{context_of, depth_in, is_heap_context, obj_of, objects_of, ref_of}
use Rattle.cs_classes.specs.Sound.{IsWhole}
use Rattle.cs_classes.proofs.Refs.{count_of-small}
use Rattle.cs_classes.proofs.Sorts.{obj_of-context}
use Rattle.cs_classes.proofs.Sounds.{IsWholeContext, sound_at, whole_context}
use Rattle.cs_frame.specs.declared.FrameRef.{FrameRef}
use Rattle.cs_frame.specs.Frame.{Frame, nil}
use Rattle.cs_marriage.specs.Agree.{AreMarried, frame_size}
use Rattle.cs_marriage.specs.Place.{names_place}
use Rattle.cs_marriage.proofs.Agreeing.{size_some}
use Rattle.cs_marriage.proofs.Places.{link_names}
use Rattle.cs_model.specs.Ref as ref
use Rattle.cs_model.specs.Obj.{Ctx, dead}
use Rattle.cs_stack.specs.View.{bare, dead_words, frame_context, frame_hash, is_linked, unframed}
use Rattle.cs_stack.proofs.Bare.{bare_element}
use Rattle.cs_stack.proofs.Places.{SpouseOf, spouse}

-- ---- the words of a dead context

module _ (ws : List ℕ) (long : 6 ≤ length ws) where
  pub dead_sender : slice_index (dead_words ws) 0 ≡ nil
  dead_sender = get_or-set_other (set (set ws 0 nil) 1 nil) 2 0 (small_word (pos 0)) 0 (λ e. omega (arith, e))
      ∙ get_or-set_other (set ws 0 nil) 1 0 nil 0 (λ e. omega (arith, e)) ∙ get_or-set_same ws 0 nil 0 (omega (arith, long))

  pub dead_pc : slice_index (dead_words ws) 1 ≡ nil
  dead_pc = get_or-set_other (set (set ws 0 nil) 1 nil) 2 1 (small_word (pos 0)) 0 (λ e. omega (arith, e))
      ∙ get_or-set_same (set ws 0 nil) 1 nil 0 (omega (arith, long, length-set ws 0 nil))

  pub dead_stackp : slice_index (dead_words ws) 2 ≡ small_word (pos 0)
  dead_stackp = get_or-set_same (set (set ws 0 nil) 1 nil) 2 (small_word (pos 0)) 0 (omega (arith, long, length-set ws 0 nil, length-set (set ws 0 nil) 1 nil))

  pub dead_other : (i : ℕ) → 2 < i → slice_index (dead_words ws) i ≡ slice_index ws i
  dead_other i h = get_or-set_other (set (set ws 0 nil) 1 nil) 2 i (small_word (pos 0)) 0 (λ e. omega (arith, e, h))
      ∙ get_or-set_other (set ws 0 nil) 1 i nil 0 (λ e. omega (arith, e, h)) ∙ get_or-set_other ws 0 i nil 0 (λ e. omega (arith, e, h))

  pub dead_long : length (dead_words ws) ≡ length ws
  dead_long = length-set (set (set ws 0 nil) 1 nil) 2 (small_word (pos 0)) ∙ length-set (set ws 0 nil) 1 nil ∙ length-set ws 0 nil

  pub dead_depth : depth_in (dead_words ws) ≡ 0
  dead_depth = ap (λ n. unwrap_or (natural_of_word n) 0) dead_stackp ∙ ap (λ o. unwrap_or o 0) (count_of-small 0 (omega arith))

none_counts : natural_of_word nil ≡ None
unfolding natural_of_word
none_counts = refl

-- ---- the context of a frame

pub linked_is : (x : Object) → is_heap_context x ≡ true → names_place (slice_index x.words 0) ≡ true → is_linked x ≡ true
linked_is x c named = ap (λ b. b && names_place (slice_index x.words 0)) c ∙ named

pub unframed_linked : (x : Object) → is_linked x ≡ true → unframed x ≡ record x { words = dead_words x.words }
unframed_linked x h = ap (λ b. if b then record x { words = dead_words x.words } else x) h

module _ {os : List Object} {table : FinMap nat_cmp ℕ} {roots : Roots} (heap : IsWhole os table roots) (r : FrameRef) (f : Frame) (gs : List Frame) (ne : f.context ≢ nil) (m : AreMarried os r f) where
  the_spouse : SpouseOf os f
  the_spouse = spouse os r f m

  abbrev x : Object
  x = the_spouse.object

  there : heap_object os f.context ≡ Some x
  there = the_spouse.there

  class : is_heap_context x ≡ true
  class = the_spouse.context

  slot_is : (i : ℕ) → slot_of os f.context i ≡ slice_index x.words i
  slot_is i = ap (λ (o : Option Object). option_map_or (λ (y : Object). slice_index y.words i) o 0) there

  count_is : slot_count_of os f.context ≡ length x.words
  count_is = ap (λ (o : Option Object). option_map_or (λ (y : Object). length y.words) o 0) there

  whole : IsWholeContext os x
  whole = whole_context os x (sound_at os f.context x heap.heap there) class

  linked : is_linked x ≡ true
  linked = linked_is x class (ap names_place (sym (slot_is 0) ∙ m.place) ∙ link_names r)

  hash_is : frame_hash os f ≡ x.hash
  hash_is = ap (λ b. if b then 0 else hash_at os f.context) (ne_eqb f.context nil ne) ∙ ap (λ (o : Option Object). option_map_or (λ (y : Object). y.hash) o 0) there

  size_is : frame_size os f ≡ length (dead_words x.words) - 6
  size_is = size_some os f ne ∙ ap (λ n. n - 6) (count_is ∙ sym (dead_long x.words whole.fields))

  module _ (n : ℕ) (nil_name : ref_of os nil ≡ ref.Obj n) where
    death : context_of (ref_of os) x.hash (dead_words x.words) ≡ dead n (frame_context os f gs)
    unfolding context_of frame_context
    death =
        let long = whole.fields in
        λ i. record {
          hash = sym hash_is i;
          sender = (ap (ref_of os) (dead_sender x.words long) ∙ nil_name) i;
          pc = (ap natural_of_word (dead_pc x.words long) ∙ none_counts) i;
          method = ap (ref_of os) (dead_other x.words long 3 (omega arith) ∙ sym (slot_is 3) ∙ m.method) i;
          closure = ap (ref_of os) (dead_other x.words long 4 (omega arith) ∙ sym (slot_is 4) ∙ m.closure) i;
          receiver = ap (ref_of os) (dead_other x.words long 5 (omega arith) ∙ sym (slot_is 5) ∙ m.receiver) i;
          stack = ap (λ d. map (ref_of os) (take d (drop 6 (dead_words x.words)))) (dead_depth x.words long) i;
          size = sym size_is i;
        }

    pub widow : get (objects_of (bare os)) f.birth ≡ Some (Ctx (dead n (frame_context os f gs)))
    widow =
        ap (get (objects_of (bare os))) (sym the_spouse.birth) ∙ bare_element os the_spouse.place x heap.heap the_spouse.element
        ∙ ap (λ y. Some (obj_of (ref_of os) y)) (unframed_linked x linked)
        ∙ ap (λ o. Some o) (obj_of-context (ref_of os) (record x { words = dead_words x.words }) class)
        ∙ ap (λ c. Some (Ctx c)) death
