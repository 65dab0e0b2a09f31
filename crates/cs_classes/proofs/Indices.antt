-- The index that a class takes: the lowest that is empty.
use Rattle.std.proofs.Common.{◌≡◌, ◌≢◌, ℕ, zero, suc, ◌+◌, ◌-◌, Bool, true, false, cond, List, [], ◌∷◌, length, drop, take, Option, Some, None, option_map, is_some, refl, ap, sym, ◌∙◌, arith, get_or, inl, inr, length-drop, option_and_then}
use Rattle.std.specs.Prelude.{◌==◌, is_none, position, slice_get, if◌then◌else◌}
use Rattle.std.specs.List.{position_from}
use Rattle.std.specs.Option.{option_map_or}
use Rattle.std.specs.Ordering.{nat_cmp, eq_by_cmp}
use Rattle.std.specs.Cmp.{nat_cmp_total}
use Rattle.std.specs.FinMap.{FinMap, from_entries, get, get-insert, insert, nat_cmp-IsAntisymmetric, same_map}
use Rattle.std.proofs.lemmas.Iterator.Adapters.{position_from-zero}
use Rattle.std.proofs.lemmas.List.{get_or-drop, take_all}
use Rattle.cs_word.specs.declared.Oop.{Oop}
use Rattle.std.proofs.lemmas.Bool.{cases_eq, eq-eqb, eqb-true, ne_eqb}
use Rattle.cs_heap.specs.Object.{Object, at_index, hash_at, hash_set, object_place}
use Rattle.cs_model.specs.Instance.{IndexAt, NoIndex, first_free_index, free_indices, is_entry, lowest_free, taken}
use Rattle.cs_classes.specs.Instances.{index_in_table}
use Rattle.cs_classes.specs.Table.{filled}
use Rattle.cs_classes.proofs.Tables.{get-filled, ties_other, ties_same}

-- counting from another number adds that
position_from-shift : {X : Type 0} (test : X → Bool) (i from : ℕ) (xs : List X) → position_from test (from + i) xs ≡ option_map (λ p. from + p) (position_from test i xs)
position_from-shift test i from [] = refl
position_from-shift test i from (x ∷ xs) =
    go (test x) (ap (λ n. position_from test n xs) (omega arith) ∙ position_from-shift test (i + 1) from xs)
  where
    go : (b : Bool) → position_from test (from + i + 1) xs ≡ option_map (λ p. from + p) (position_from test (i + 1) xs)
        → cond b (Some (from + i)) (position_from test (from + i + 1) xs) ≡ option_map (λ p. from + p) (cond b (Some i) (position_from test (i + 1) xs))
    go true h = refl
    go false h = h

-- the first empty one of the entries that begin at an index
lowest_among : (es : List (Option Oop)) (from : ℕ) (table : FinMap nat_cmp ℕ) → ((j : ℕ) → is_some (get table (from + j)) ≡ is_some (get_or es j None))
    → position_from (λ (e : Option Oop). is_none e) from es ≡ lowest_free (length es) from table
unfolding lowest_free
lowest_among [] from table same = refl
lowest_among (e ∷ es) from table same = go e (is_some (get table from)) (ap (λ n. is_some (get table n)) (omega arith) ∙ same 0)
    (lowest_among es (from + 1) table (λ j. ap (λ n. is_some (get table n)) (omega arith) ∙ same (suc j)))
  where
    go : (e : Option Oop) (b : Bool) → b ≡ is_some e → position_from (λ (e : Option Oop). is_none e) (from + 1) es ≡ lowest_free (length es) (from + 1) table
        → cond (is_none e) (Some from) (position_from (λ (e : Option Oop). is_none e) (from + 1) es) ≡ (if b then lowest_free (length es) (from + 1) table else Some from)
    go None true h r = absurd (cc)
    go None false h r = refl
    go (Some o) true h r = r
    go (Some o) false h r = absurd (cc)

some_map : (o : Option Oop) → is_some (option_map (λ (p : Oop). p.0) o) ≡ is_some o
some_map None = refl
some_map (Some p) = refl

-- the first empty entry from an index on
pub lowest_from : (es : List (Option Oop)) (from n : ℕ) → length es ≡ from + n
    → option_map (λ p. from + p) (position (λ (e : Option Oop). is_none e) (drop from es)) ≡ lowest_free n from (from_entries (filled 0 es))
lowest_from es from n long =
    ap (option_map (λ p. from + p)) (position_from-zero (λ (e : Option Oop). is_none e) (drop from es)) ∙ sym (position_from-shift (λ (e : Option Oop). is_none e) 0 from (drop from es))
    ∙ ap (λ m. position_from (λ (e : Option Oop). is_none e) m (drop from es)) (omega arith)
    ∙ lowest_among (drop from es) from (from_entries (filled 0 es)) same
    ∙ ap (λ m. lowest_free m from (from_entries (filled 0 es))) (omega (arith, long, length-drop from es))
  where
    same : (j : ℕ) → is_some (get (from_entries {R = nat_cmp} (filled 0 es)) (from + j)) ≡ is_some (get_or (drop from es) j None)
    same j = ap is_some (get-filled es (from + j)) ∙ some_map (get_or es (from + j) None) ∙ ap is_some (sym (get_or-drop from es j None))

pub lowest_empty : (es slice : List (Option Oop)) → length es ≡ 16384 → slice ≡ es
    → option_map (λ p. 32 + p) (position (λ (e : Option Oop). is_none e) (take (length slice - 32) (drop 32 slice))) ≡ lowest_free free_indices 32 (from_entries (filled 0 es))
unfolding free_indices
lowest_empty es slice long is =
    ap (λ (xs : List (Option Oop)). option_map (λ p. 32 + p) (position (λ (e : Option Oop). is_none e) (take (length xs - 32) (drop 32 xs)))) is
    ∙ ap (λ (xs : List (Option Oop)). option_map (λ p. 32 + p) (position (λ (e : Option Oop). is_none e) xs)) (take_all (length es - 32) (drop 32 es) (omega (arith, length-drop 32 es)))
    ∙ lowest_from es 32 16352 long

-- ---- the index of a class

-- an object without a hash takes the lowest empty one
pub index-free : (os : List Object) (table : FinMap nat_cmp ℕ) (a : ℕ) → hash_at os a ≡ 0 → index_in_table os table a ≡ taken (lowest_free free_indices first_free_index table)
unfolding index_in_table
index-free os table a none = rw (eq-eqb (hash_at os a) 0 none) refl

-- one with a hash has it, if it is the entry there
pub index-entry : (os : List Object) (table : FinMap nat_cmp ℕ) (a hash : ℕ) → hash ≡ hash_at os a → hash ≢ 0 → is_entry (get table hash) a ≡ true
    → index_in_table os table a ≡ IndexAt hash
unfolding index_in_table
index-entry os table a hash is some entry =
    rw (sym is, ne_eqb hash 0 some, entry) refl

pub index-none : (os : List Object) (table : FinMap nat_cmp ℕ) (a hash : ℕ) → hash ≡ hash_at os a → hash ≢ 0 → is_entry (get table hash) a ≡ false
    → index_in_table os table a ≡ NoIndex
unfolding index_in_table
index-none os table a hash is some entry =
    rw (sym is, ne_eqb hash 0 some, entry) refl

-- what has an index for its hash is the entry there
pub record HasIndex (os : List Object) (table : FinMap nat_cmp ℕ) (a index : ℕ) : Type 0 where
  pub hash : hash_at os a ≡ index
  pub entry : get table index ≡ Some a

pub has_index : (os : List Object) (table : FinMap nat_cmp ℕ) (a index : ℕ) → hash_at os a ≢ 0 → index_in_table os table a ≡ IndexAt index → HasIndex os table a index
unfolding index_in_table
has_index os table a index some h = go (get table (hash_at os a)) refl (sym (ap (λ b. if b then taken (lowest_free free_indices first_free_index table) else (if is_entry (get table (hash_at os a)) a then IndexAt (hash_at os a) else NoIndex)) (ne_eqb (hash_at os a) 0 some)) ∙ h)
  where
    tested : (b c : ℕ) (t : Bool) → (b == c) ≡ t → get table (hash_at os a) ≡ Some b → (if t then IndexAt (hash_at os a) else NoIndex) ≡ IndexAt index → (c ≡ a) → HasIndex os table a index
    tested b c false e found h is = absurd (cc)
    tested b c true e found h is =
        let same : hash_at os a ≡ index = cc in
        record { hash = same; entry = ap (get table) (sym same) ∙ found ∙ ap Some (eqb-true b c e ∙ is) }

    go : (o : Option ℕ) → get table (hash_at os a) ≡ o → (if is_entry o a then IndexAt (hash_at os a) else NoIndex) ≡ IndexAt index → HasIndex os table a index
    go None found h = absurd (cc)
    go (Some b) found h = tested b a (b == a) refl found h refl

-- giving an object the hash that it has changes nothing
pub hash_set-same : (os : List Object) (a hash : ℕ) → hash_at os a ≡ hash → hash_set os a hash ≡ os
unfolding at_index
hash_set-same os a hash e = go (object_place os a) refl
  where
    same : (k : ℕ) (xs : List Object) → option_map_or (λ (x : Object). x.hash) (slice_get xs k) 0 ≡ hash → at_index k (λ (x : Object). record x { hash = hash }) xs ≡ xs
    same k [] h = refl
    same zero (x ∷ xs) h = ap (λ (n : ℕ). record x { hash = n } ∷ xs) (sym h)
    same (suc k) (x ∷ xs) h = ap (λ (ys : List Object). x ∷ ys) (same k xs h)

    go : (o : Option ℕ) → object_place os a ≡ o → option_map_or (λ (k : ℕ). at_index k (λ (x : Object). record x { hash = hash }) os) o os ≡ os
    go None p = refl
    go (Some k) p = same k os (sym (ap (λ (o : Option ℕ). option_map_or (λ (x : Object). x.hash) (option_and_then (slice_get os) o) 0) p) ∙ e)

-- an entry that is there already changes nothing
pub insert-same : (table : FinMap nat_cmp ℕ) (index a : ℕ) → get table index ≡ Some a → insert table index a ≡ table
insert-same table index a found = same_map nat_cmp_total nat_cmp-IsAntisymmetric _ _ alike
  where
    alike : (q : ℕ) → get {R = nat_cmp} (insert table index a) q ≡ get {R = nat_cmp} table q
    alike q = get-insert nat_cmp_total table index a q ∙ elim (cases_eq q index) as (λ _. cond (eq_by_cmp nat_cmp q index) (Some a) (get {R = nat_cmp} table q) ≡ get {R = nat_cmp} table q) [
      | inl e ↦ ap (λ b. cond b (Some a) (get {R = nat_cmp} table q)) (ap (λ n. eq_by_cmp nat_cmp n index) e ∙ ties_same index) ∙ sym found ∙ ap (get table) (sym e)
      | inr other ↦ ap (λ b. cond b (Some a) (get {R = nat_cmp} table q)) (ties_other q index other)
    ]
