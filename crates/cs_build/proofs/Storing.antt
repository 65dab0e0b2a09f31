-- The objects of a file are those of which it was made.
use Rattle.std.proofs.Common.{◌≡◌, ℕ, zero, suc, ◌+◌, ◌≤◌, false, List, [], ◌∷◌, ◌++◌, length, map, take, drop, refl, ap, ap₂, sym, subst, ◌∙◌}
use Rattle.std.proofs.lemmas.List.{map-append}
use Rattle.std.specs.Prelude.{Option}
use Rattle.std.specs.List.{AllByRecursion, range_with_len}
use Rattle.cs_model.specs.Ref.{Ref}
use Rattle.cs_model.specs.Ref as ref
use Rattle.cs_model.specs.Obj.{Obj, Head, Ptr, Raw, Method, Ctx}
use Rattle.cs_model.specs.Words.{obj_by}
use Rattle.cs_model.specs.ImageFile.{File, visible}
use Rattle.cs_model.specs.Image.{birth_in, object_in}
use Rattle.cs_model.specs.SavedFile.{SavedObject, placed_from, saved_size, saved_base}
use Rattle.cs_build.specs.Laid.{Laid, laid, laid_words, laid_size, saved_by, laid_addresses}
use Rattle.cs_build.specs.Stored.{IsStored}
use Rattle.cs_build.proofs.Putting.{map_take, map_drop, all_take, all_drop, length-map}
use Rattle.cs_build.proofs.Naming.{are_addresses}
use Rattle.cs_build.proofs.Reading.{AreAddresses, pointers_back, raw_back, method_back, context_back}

abbrev loose : Laid → Head
loose l = record { class = l.class; format = l.format; hash = l.hash; fixed = false }

stored_back : (a : List ℕ) (named : ℕ → Ref) (n : ℕ) (o : Obj) → AreAddresses a named n → IsStored n o → obj_by named (loose (laid o)) (laid_words a (laid o)) ≡ o
stored_back a named n (Ptr head slots) are s =
    ap (λ (f : _). obj_by named (record { class = head.class; format = head.format; hash = head.hash; fixed = f }) (laid_words a (laid (Ptr head slots)))) (sym s.loose)
    ∙ pointers_back a named n head slots are s.refs s.other s.pointers s.same
stored_back a named n (Raw head bytes) are s =
    ap (λ (h : Head). obj_by named (loose (laid (Raw h bytes))) (laid_words a (laid (Raw h bytes)))) s.is_head
    ∙ raw_back a named head.class bytes s.units s.other ∙ ap (λ (h : Head). Raw h bytes) (sym s.is_head)
stored_back a named n (Method head header literals bytecodes) are s =
    ap (λ (h : Head). obj_by named (loose (laid (Method h header literals bytecodes))) (laid_words a (laid (Method h header literals bytecodes)))) s.is_head
    ∙ method_back a named n header literals bytecodes are s.refs s.small s.counted s.units ∙ ap (λ (h : Head). Method h header literals bytecodes) (sym s.is_head)
stored_back a named n (Ctx c) are s =
    ap (λ (p : Option ℕ). obj_by named (loose (laid (Ctx (record c { pc = p })))) (laid_words a (laid (Ctx (record c { pc = p }))))) s.pc
    ∙ context_back a named n c.hash s.at c.size c.sender c.method c.closure c.receiver c.stack are s.sender s.method s.closure s.receiver s.stack s.fits s.depth s.size
    ∙ ap (λ (p : Option ℕ). Ctx (record c { pc = p })) (sym s.pc)

placed_back : (f : File) (births a : List ℕ) (n at : ℕ) (os : List Obj) → AreAddresses a (λ word. ref.Obj (birth_in f births word)) n → AllByRecursion (IsStored n) os
    → map (object_in f births) (placed_from at (map (saved_by a) (map laid os))) ≡ os
unfolding placed_from
placed_back f births a n at [] are all = refl
placed_back f births a n at (o ∷ os) are all =
    ap₂ (λ (x : Obj) (xs : List Obj). x ∷ xs) (stored_back a (λ word. ref.Obj (birth_in f births word)) n o are all.0)
    (placed_back f births a n (at + saved_size (length (laid_words a (laid o)))) os are all.1)

take_drop : {A : Type 0} (n : ℕ) (xs : List A) → take n xs ++ drop n xs ≡ xs
take_drop zero xs = refl
take_drop (suc n) [] = refl
take_drop (suc n) (x ∷ xs) = ap (λ (ys : List _). x ∷ ys) (take_drop n xs)

-- all objects of a file, in order
pub objects_back : (f : File) (os : List Obj) → f.base ≡ saved_base → laid_size (take 3 (map laid os)) ≤ 34 → AllByRecursion (IsStored (length os)) os
    → visible f ≡ placed_from 0 (take 3 (map (saved_by (laid_addresses (map laid os))) (map laid os))) ++ placed_from 34 (drop 3 (map (saved_by (laid_addresses (map laid os))) (map laid os)))
    → map (object_in f (range_with_len 0 (length os))) (visible f) ≡ os
objects_back f os base room all seen =
    let ls : List Laid = map laid os in
    let a : List ℕ = laid_addresses (map laid os) in
    let count : length (map laid os) ≡ length os = length-map laid os in
    let are : AreAddresses a (λ word. ref.Obj (birth_in f (range_with_len 0 (length os)) word)) (length os) =
    subst (λ (n : ℕ). AreAddresses (laid_addresses (map laid os)) (λ word. ref.Obj (birth_in f (range_with_len 0 n) word)) n) count (are_addresses f ls base seen room) in
    let births : List ℕ = range_with_len 0 (length os) in
    let part : (k : ℕ) → take k (map (saved_by a) (map laid os)) ≡ map (saved_by a) (map laid (take k os)) = λ k.
    sym (map_take (saved_by a) k ls) ∙ ap (map (saved_by a)) (sym (map_take laid k os)) in
    let rest : (k : ℕ) → drop k (map (saved_by a) (map laid os)) ≡ map (saved_by a) (map laid (drop k os)) = λ k.
    sym (map_drop (saved_by a) k ls) ∙ ap (map (saved_by a)) (sym (map_drop laid k os)) in
    ap (map (object_in f births)) (seen ∙ ap₂ (λ (xs ys : List SavedObject). placed_from 0 xs ++ placed_from 34 ys) (part 3) (rest 3))
    ∙ map-append (object_in f births) (placed_from 0 (map (saved_by a) (map laid (take 3 os)))) (placed_from 34 (map (saved_by a) (map laid (drop 3 os))))
    ∙ ap₂ (λ (xs ys : List Obj). xs ++ ys)
    (placed_back f births a (length os) 0 (take 3 os) are (all_take (IsStored (length os)) 3 os all))
    (placed_back f births a (length os) 34 (drop 3 os) are (all_drop (IsStored (length os)) 3 os all))
    ∙ take_drop 3 os
