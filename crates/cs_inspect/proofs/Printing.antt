-- The lines of all objects, in the order of their births.
use Rattle.std.proofs.Common.{◌≡◌, ℕ, ◌<◌, ◌≤◌, Bool, true, false, refl, sym, ap, ◌∙◌, Option, Some, None, List, [], ◌++◌, length, take, get_or, option_map, flat_map}
use Rattle.std.specs.Prelude.{codes, decimal, slice_get}
use Rattle.std.specs.Option.{option_map_or}
use Rattle.std.specs.Ordering.{nat_cmp}
use Rattle.std.specs.FinMap.{FinMap, entries}
use Rattle.std.proofs.lemmas.List.{take_all}
use Rattle.std.proofs.lemmas.List.Folds.{flat_map-map}
use Rattle.std.proofs.lemmas.Option.{slice_get-get_or, slice_get-map}
use Rattle.cs_word.specs.declared.Oop.{Oop}
use Rattle.cs_heap.specs.Object.{Object, is_object}
use Rattle.cs_model.specs.Obj.{Obj}
use Rattle.cs_model.specs.Print.{head_line, object_line, object_text, print_of}
use Rattle.cs_classes.specs.declared.Roots.{Roots}
use Rattle.cs_classes.specs.Meaning.{kept_of, meaning_at, obj_of, objects_of, ref_of}
use Rattle.cs_inspect.specs.Reading.{IsInOrder, entry_at}
use Rattle.cs_inspect.specs.Texts.{line_at}
use Rattle.cs_inspect.proofs.Finding.{no_object}

abbrev some_value : ℕ × Obj → ℕ × Option Obj
some_value e = (e.0, Some e.1)

-- each of them is an object
pub in_order_object : (os : List Object) (order : List Oop) (i : ℕ) (d : Oop) → IsInOrder os order → i < length order → is_object os (get_or order i d).0 ≡ true
in_order_object os order i d h less = go (slice_get (entries (objects_of os)) i) refl
  where
    o : Oop
    o = get_or order i d

    found : Some (entry_at os (get_or order i d)) ≡ option_map some_value (slice_get (entries (objects_of os)) i)
    found =
        sym (slice_get-map (entry_at os) order i ∙ ap (option_map (entry_at os)) (slice_get-get_or order i d less))
        ∙ ap (λ (es : List (ℕ × Option Obj)). slice_get es i) h
        ∙ slice_get-map some_value (entries (objects_of os)) i

    second : (q : Option (ℕ × Option Obj)) → Option Obj
    second q = option_map_or (λ (e : ℕ × Option Obj). e.1) q None

    there : (b : Bool) → is_object os (get_or order i d).0 ≡ b → (e : Obj) → meaning_at os (get_or order i d).0 ≡ Some e → b ≡ true
    there true k e m = refl
    there false k e m = absurd (none (sym (ap (option_map (obj_of (ref_of os))) (no_object os (get_or order i d).0 k)) ∙ m))
      where
        none : None ≡ Some e → ⊥
        none q = cc

    go : (p : Option (ℕ × Obj)) → slice_get (entries (objects_of os)) i ≡ p → is_object os (get_or order i d).0 ≡ true
    go None e = absurd (lost (found ∙ ap (option_map some_value) e))
      where
        lost : Some (entry_at os (get_or order i d)) ≡ None → ⊥
        lost q = cc
    go (Some p) e =
        there (is_object os (get_or order i d).0) refl p.1
        (ap (λ (q : Option (ℕ × Option Obj)). option_map_or (λ (f : ℕ × Option Obj). f.1) q None) (found ∙ ap (option_map some_value) e))

-- a line by birth and meaning
abbrev line_by : ℕ × Option Obj → List ℕ
line_by p = decimal p.0 ++ option_map_or object_text p.1 [] ++ codes "\n"

lines_are : (os : List Object) (order : List Oop) → IsInOrder os order → flat_map (line_at os) order ≡ flat_map (λ e. object_line e.0 e.1) (entries (objects_of os))
lines_are os order h =
    sym (flat_map-map line_by (entry_at os) order)
    ∙ ap (flat_map line_by) h
    ∙ flat_map-map line_by some_value (entries (objects_of os))

pub printed : (os : List Object) (table : FinMap nat_cmp ℕ) (roots : Roots) (order items : List Oop) (i : ℕ) (text : List ℕ) → IsInOrder os order → items ≡ order → length items ≤ i
    → text ≡ head_line (kept_of os table roots None) ++ flat_map (line_at os) (take i items) → text ≡ print_of (kept_of os table roots None)
unfolding print_of
printed os table roots order items i text h is past before =
    before
    ∙ ap (λ (xs : List Oop). head_line (kept_of os table roots None) ++ flat_map (line_at os) xs) (take_all i items past ∙ is)
    ∙ ap (λ (lines : List ℕ). head_line (kept_of os table roots None) ++ lines) (lines_are os order h)
