-- The objects in front of the classes, in parts.
use Rattle.std.specs.Prelude.{ℕ, List, [], ◌∷◌, codes, map}
use Rattle.std.specs.List.{range_with_len}
use Rattle.cs_model.specs.Ref.{Ref}
use Rattle.cs_model.specs.Ref as ref
use Rattle.cs_model.specs.Obj.{Obj, Ptr, new_head}
use Rattle.cs_model.specs.BuilderText.{Form}
use Rattle.cs_model.specs.Builder.{active_ref, class_ref, first_list, first_objects, list_object, nil_ref, selector_slots, special_slots, special_symbols, symbol_ref}

-- the special objects that are no symbols, where the text says nothing of them
abbrev pub known_specials : List Form → List (ℕ × Ref)
known_specials forms = (3, ref.Obj 5) ∷ (23, ref.Obj 4)
    ∷ (7, class_ref forms (codes "Array")) ∷ (12, class_ref forms (codes "Point"))
    ∷ (15, class_ref forms (codes "Message")) ∷ (18, class_ref forms (codes "Semaphore")) ∷ []

unfoldable pub symbol_specials : List Form → List (ℕ × Ref)
symbol_specials forms = map (λ e. (e.0, symbol_ref forms e.1)) special_symbols

unfoldable pub special_array_of : List Form → Obj
special_array_of forms = Ptr (new_head 39 2) (special_slots forms)

unfoldable pub selector_array_of : List Form → Obj
selector_array_of forms = Ptr (new_head 39 2) (selector_slots forms)

abbrev pub lists_made : Obj
lists_made = Ptr (new_head 39 2) (map (λ i. ref.Obj i) (range_with_len first_list 8))

unfoldable pub all_lists : List Form → List Obj
all_lists forms = map (list_object forms) (range_with_len 1 8)

unfoldable pub first_made : List Form → List Obj
first_made forms = first_objects forms

-- those in front of the lists
unfoldable pub heads_made : List Form → List Obj
heads_made forms = Ptr (new_head 34 0) [] ∷ Ptr (new_head 35 0) [] ∷ Ptr (new_head 38 0) [] ∷ special_array_of forms ∷ selector_array_of forms
    ∷ Ptr (new_head 49 1) (nil_ref ∷ ref.Obj 6 ∷ []) ∷ Ptr (new_head 48 1) (ref.Obj 7 ∷ active_ref forms ∷ []) ∷ lists_made ∷ []
