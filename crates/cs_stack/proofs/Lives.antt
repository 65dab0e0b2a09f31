-- A word and a pc that lies in the method that the word names.
use Rattle.std.proofs.Common.{◌≡◌, ℕ, true, false, refl, ap, Option, Some, None, List, option_map}
use Rattle.cs_heap.specs.Format.{is_code}
use Rattle.cs_heap.specs.Object.{Object, heap_object}
use Rattle.cs_classes.specs.Meaning.{is_heap_context, meaning_at, method_meaning, obj_of, ref_of}
use Rattle.cs_classes.proofs.Sorts.{AContext, AMethod, Bytes, Pointers, Sort, obj_of-bytes, obj_of-context, obj_of-pointers, sort_of}
use Rattle.cs_model.specs.Obj.{lies_in}
use Rattle.cs_model.specs.Context.{lies_if_index, lies_if_live}

pub record Lives (os : List Object) (m : ℕ) (at : Option ℕ) : Type 0 where
  pub pc : ℕ
  pub at_is : at ≡ Some pc
  pub lies : lies_in (meaning_at os m) pc ≡ true
  pub object : Object
  pub there : heap_object os m ≡ Some object
  pub other : is_heap_context object ≡ false
  pub format : is_code object.format ≡ true

-- only a method has a place where a pc lies
sort_lies : (os : List Object) (x : Object) (pc : ℕ) → Sort x → lies_in (Some (obj_of (ref_of os) x)) pc ≡ true → (is_heap_context x ≡ false) × (is_code x.format ≡ true)
unfolding method_meaning
sort_lies os x pc (AContext c) h = absurd (let e : lies_in (Some (obj_of (ref_of os) x)) pc ≡ false = ap (λ y. lies_in (Some y) pc) (obj_of-context (ref_of os) x c) in cc)
sort_lies os x pc (Pointers a p) h = absurd (let e : lies_in (Some (obj_of (ref_of os) x)) pc ≡ false = ap (λ y. lies_in (Some y) pc) (obj_of-pointers (ref_of os) x a p) in cc)
sort_lies os x pc (Bytes a p m) h = absurd (let e : lies_in (Some (obj_of (ref_of os) x)) pc ≡ false = ap (λ y. lies_in (Some y) pc) (obj_of-bytes (ref_of os) x a p m) in cc)
sort_lies os x pc (AMethod a p m) h = (a, m)

pub lives_at : (os : List Object) (m : ℕ) (at : Option ℕ) (pc : ℕ) → at ≡ Some pc → lies_in (meaning_at os m) pc ≡ true → Lives os m at
lives_at os m at pc is h = go (heap_object os m) refl h
  where
    go : (o : Option Object) → heap_object os m ≡ o → lies_in (option_map (obj_of (ref_of os)) o) pc ≡ true → Lives os m at
    go None e l = absurd (cc)
    go (Some x) e l =
        let s = sort_lies os x pc (sort_of x) l in
        record { pc = pc; at_is = is; lies = h; object = x; there = e; other = s.0; format = s.1 }

pub lives : (os : List Object) (m : ℕ) (at : Option ℕ) → lies_if_index (meaning_at os m) at ≡ true → Lives os m at
lives os m None h = absurd (cc)
lives os m (Some pc) h = lives_at os m (Some pc) pc refl h

pub lives_if_live : (os : List Object) (m : ℕ) (at : Option ℕ) (pc : ℕ) → lies_if_live (meaning_at os m) at ≡ true → at ≡ Some pc → Lives os m at
lives_if_live os m None pc h e = absurd (cc)
lives_if_live os m (Some p) pc h e = lives_at os m (Some p) p refl h
