-- The classes that the machine makes objects of by their indices stand in the table of an image that loads.
use Rattle.std.proofs.Common.{◌≡◌, ℕ, zero, suc, ◌<◌, ◌==◌, ◌&&◌, not, Bool, true, false, List, is_some, refl, ap, sym, ◌∙◌, arith, rules, inl, inr}
use Rattle.std.specs.FinMap.{FinMap, get, gets, insert}
use Rattle.std.specs.Ordering.{nat_cmp}
use Rattle.std.proofs.lemmas.Bool.Decides.{eqb_tells}
use Rattle.cs_model.specs.Obj.{context_class}
use Rattle.cs_model.specs.Context.{closure_class}
use Rattle.cs_model.specs.ImageFile.{File, file_of, is_nil_word, special_address}
use Rattle.cs_model.specs.ImageFault.{entry_in, has_entry, table_size}
use Rattle.cs_image.specs.Loading.{address_named, classes_at}
use Rattle.cs_image.proofs.Soundness.{IsSoundFile, Table, and_true, table_parts}

-- an entry that isn't nil is there
get_here : (m : FinMap nat_cmp ℕ) (i a : ℕ) → is_some (get (insert m i a) i) ≡ true
get_here m i a = grind (gets, rules)

get_apart : (m : FinMap nat_cmp ℕ) (i j a : ℕ) → (j ≡ i → ⊥) → get (insert m i a) j ≡ get m j
get_apart m i j a apart = grind (gets, rules)

-- what holds of the entries below n holds with one more
with_next : (f : File) (n i : ℕ) → (b : Bool) → is_nil_word f (entry_in f n) ≡ b → (i ≡ n → ⊥) → is_some (get (classes_at f n) i) ≡ true → is_some (get (classes_at f (suc n)) i) ≡ true
with_next f n i true nil apart before =
    let here : classes_at f (suc n) ≡ classes_at f n = rw nil refl in
    ap (λ (m : FinMap nat_cmp ℕ). is_some (get m i)) here ∙ before
with_next f n i false some apart before =
    let here : classes_at f (suc n) ≡ insert (classes_at f n) n (address_named f (entry_in f n)) = rw some refl in
    ap (λ (m : FinMap nat_cmp ℕ). is_some (get m i)) here ∙ ap is_some (get_apart (classes_at f n) n i (address_named f (entry_in f n)) apart) ∙ before

last_there : (f : File) (n i : ℕ) → i ≡ n → is_nil_word f (entry_in f i) ≡ false → is_some (get (classes_at f (suc n)) i) ≡ true
last_there f n i s e =
    let here : classes_at f (suc n) ≡ insert (classes_at f n) n (address_named f (entry_in f n)) = rw (ap (λ (j : ℕ). is_nil_word f (entry_in f j)) (sym s) ∙ e) refl in
    ap (λ (m : FinMap nat_cmp ℕ). is_some (get m i)) here ∙ ap (λ (j : ℕ). is_some (get (insert (classes_at f n) n (address_named f (entry_in f n))) j)) s
    ∙ get_here (classes_at f n) n (address_named f (entry_in f n))

pub entry_there : (f : File) (n i : ℕ) → i < n → is_nil_word f (entry_in f i) ≡ false → is_some (get (classes_at f n) i) ≡ true
entry_there f zero i lt e = absurd (omega (arith, lt))
entry_there f (suc n) i lt e = elim (eqb_tells i n) [
  | inl s ↦ last_there f n i s.1 e
  | inr s ↦ with_next f n i (is_nil_word f (entry_in f n)) refl s.1 (entry_there f n i (omega (arith, lt, s.1)) e)
]

filled : (b : Bool) → not b ≡ true → b ≡ false
filled true e = absurd (cc)
filled false e = refl

-- Context and BlockClosure have entries
kinds : (f : File) → Table f → (has_entry f 36 ≡ true) × (has_entry f 37 ≡ true)
kinds f t =
    let a = and_true (not (has_entry f 0) && not (has_entry f 16) && has_entry f 1 && has_entry f 2 && has_entry f 36 && has_entry f 37 && entry_in f 3 == entry_in f 1) _ t.known in
    let b = and_true (not (has_entry f 0) && not (has_entry f 16) && has_entry f 1 && has_entry f 2 && has_entry f 36 && has_entry f 37) _ a.0 in
    let c = and_true (not (has_entry f 0) && not (has_entry f 16) && has_entry f 1 && has_entry f 2 && has_entry f 36) _ b.0 in
    let d = and_true (not (has_entry f 0) && not (has_entry f 16) && has_entry f 1 && has_entry f 2) _ c.0 in
    (d.1, c.1)

pub known_kinds : (bytes : List ℕ) (file : File) (table : FinMap nat_cmp ℕ) → file ≡ file_of bytes → table ≡ classes_at file table_size → IsSoundFile (file_of bytes) (special_address bytes)
    → (is_some (get table context_class) ≡ true) × (is_some (get table closure_class) ≡ true)
unfolding table_size
known_kinds bytes file table same is s =
    let f : File = file_of bytes in
    let table_is : table ≡ classes_at f 16384 = is ∙ ap (λ (g : File). classes_at g 16384) same in
    let k = kinds f (table_parts f s.table) in (
      ap (λ (m : FinMap nat_cmp ℕ). is_some (get m 36)) table_is ∙ entry_there f 16384 36 (omega arith) (filled _ k.0),
      ap (λ (m : FinMap nat_cmp ℕ). is_some (get m 37)) table_is ∙ entry_there f 16384 37 (omega arith) (filled _ k.1),
    )
