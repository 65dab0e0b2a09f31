-- What the kinds of two objects make of their comparison, and the comparison of all of them in their order.
use Rattle.std.proofs.Common.{◌≡◌, ℕ, zero, suc, ◌+◌, ◌-◌, ◌<◌, ◌≤◌, Bool, true, false, T, refl, sym, ap, ap₂, subst, ◌∙◌, arith, cond, Option, Some, None, List, [], ◌∷◌, length, map, take, drop, get_or, filter_map, option_map, is_some}
use Rattle.std.specs.Prelude.{min, nat_lt, slice_index, ◌==◌, ◌&&◌, if◌then◌else◌}
use Rattle.std.specs.List.{All, AllPass, cons_option}
use Rattle.std.specs.Cmp.{nat_cmp_total}
use Rattle.std.specs.Ordering.{eq_by_cmp, is_lt, nat_cmp}
use Rattle.std.specs.FinMap.{FinMap, entries, entries_sorted, find, get, get-entries, is_sorted, nat_cmp-IsAntisymmetric}
use Rattle.std.specs.FinMap.Entries.{below_all, same_entries}
use Rattle.std.proofs.lemmas.Bool.{eq-eqb, eqb-true, false≢true, ltb-false, ltb-true, ne_eqb}
use Rattle.std.proofs.lemmas.List.Sums.{sum_by-cons}
use Rattle.cs_word.specs.Word.{natural_of_word}
use Rattle.cs_heap.specs.Format.{is_code, is_pointers}
use Rattle.cs_heap.specs.Object.{Object, is_object, size, slot_counts, used}
use Rattle.cs_model.specs.Canon.{first_difference, same_context, same_object, same_pc, same_refs}
use Rattle.cs_model.specs.Obj.{Obj}
use Rattle.cs_model.specs.Ref.{same_ref}
use Rattle.cs_classes.specs.Meaning.{context_of, depth_in, is_heap_context, obj_of}
use Rattle.cs_classes.specs.Sound.{AreSoundObjects}
use Rattle.cs_classes.proofs.Sorts.{obj_of-bytes, obj_of-context, obj_of-method, obj_of-pointers}
use Rattle.cs_classes.proofs.Sounds.{whole_context}
use Rattle.cs_inspect.specs.declared.comparison.Sort.{Sort}
use Rattle.cs_inspect.specs.declared.comparison.Sort.TheVariants.{Context, Pointers, Raw, Method}
use Rattle.cs_inspect.specs.Comparing.{address_number, class_numbers, difference_from, numbered_word, numbered_object, numbered_objects, same_class_numbers, same_contexts_of, same_entry, same_found, same_methods_of, same_objects_of, same_pointers_of, same_raw_of, sort_at}
use Rattle.cs_inspect.proofs.Comparisons.{false_of}
use Rattle.cs_inspect.proofs.Reaching.{head_of_all, tail_of_all}
use Rattle.cs_inspect.proofs.Reading.{There, there}

-- ---- kinds

abbrev sort_by : Bool → Bool → Bool → Sort
sort_by b c d = if b then Context else (if c then Pointers else (if d then Method else Raw))

is_context_by : (b c d : Bool) → sort_by b c d ≡ Context → b ≡ true
is_context_by true c d h = refl
is_context_by false true d h = absurd (cc)
is_context_by false false true h = absurd (cc)
is_context_by false false false h = absurd (cc)

is_pointers_by : (b c d : Bool) → sort_by b c d ≡ Pointers → (b ≡ false) × (c ≡ true)
is_pointers_by true c d h = absurd (cc)
is_pointers_by false true d h = (refl, refl)
is_pointers_by false false true h = absurd (cc)
is_pointers_by false false false h = absurd (cc)

is_method_by : (b c d : Bool) → sort_by b c d ≡ Method → (b ≡ false) × (c ≡ false) × (d ≡ true)
is_method_by true c d h = absurd (cc)
is_method_by false true d h = absurd (cc)
is_method_by false false true h = (refl, refl, refl)
is_method_by false false false h = absurd (cc)

is_raw_by : (b c d : Bool) → sort_by b c d ≡ Raw → (b ≡ false) × (c ≡ false) × (d ≡ false)
is_raw_by true c d h = absurd (cc)
is_raw_by false true d h = absurd (cc)
is_raw_by false false true h = absurd (cc)
is_raw_by false false false h = (refl, refl, refl)

sort_there : (os : List Object) (a : ℕ) (t : There os a) → sort_at os a ≡ sort_by (is_heap_context t.x) (is_pointers t.x.format) (is_code t.x.format)
sort_there os a t = ap₂ (λ (n f : ℕ). sort_by (n == 36) (is_pointers f) (is_code f)) t.class t.format

numbered_there : (k : List ℕ) (os : List Object) (a : ℕ) (t : There os a) → numbered_object k os a ≡ Some (obj_of (numbered_word k) t.x)
numbered_there k os a t = ap (option_map (obj_of (numbered_word k))) t.at

-- ---- contexts

regroup : (h s e p m c r k : Bool) → (h && s && (e && p) && (m && c && r) && k) ≡ (h && s && e && p && m && c && r && k)
regroup false s e p m c r k = refl
regroup true false e p m c r k = refl
regroup true true false p m c r k = refl
regroup true true true false m c r k = refl
regroup true true true true false c r k = refl
regroup true true true true true false r k = refl
regroup true true true true true true false k = refl
regroup true true true true true true true k = refl

sizes : (m n : ℕ) → 6 ≤ m → 6 ≤ n → (m == n) ≡ (m - 6 == n - 6)
sizes m n h i = go (m == n) refl
  where
    go : (b : Bool) → (m == n) ≡ b → (m == n) ≡ (m - 6 == n - 6)
    go true e = e ∙ sym (eq-eqb (m - 6) (n - 6) (ap (λ (k : ℕ). k - 6) (eqb-true m n e)))
    go false e = e ∙ sym (ne_eqb (m - 6) (n - 6) (λ s. false≢true (sym e ∙ eq-eqb m n (omega (arith, h, i, s)))))

context_tests : (ka kb : List ℕ) (x y : Object) → 6 ≤ length x.words → 6 ≤ length y.words
    → (x.hash == y.hash && length x.words == length y.words
    && (same_ref (numbered_word ka (slice_index x.words 0)) (numbered_word kb (slice_index y.words 0)) && same_pc (natural_of_word (slice_index x.words 1)) (natural_of_word (slice_index y.words 1)))
    && (same_ref (numbered_word ka (slice_index x.words 3)) (numbered_word kb (slice_index y.words 3)) && same_ref (numbered_word ka (slice_index x.words 4)) (numbered_word kb (slice_index y.words 4)) && same_ref (numbered_word ka (slice_index x.words 5)) (numbered_word kb (slice_index y.words 5)))
    && same_refs (map (numbered_word ka) (take (depth_in x.words) (drop 6 x.words))) (map (numbered_word kb) (take (depth_in y.words) (drop 6 y.words))))
    ≡ same_context (context_of (numbered_word ka) x.hash x.words) (context_of (numbered_word kb) y.hash y.words)
unfolding context_of
context_tests ka kb x y h i =
    regroup (x.hash == y.hash) (length x.words == length y.words)
    (same_ref (numbered_word ka (slice_index x.words 0)) (numbered_word kb (slice_index y.words 0))) (same_pc (natural_of_word (slice_index x.words 1)) (natural_of_word (slice_index y.words 1)))
    (same_ref (numbered_word ka (slice_index x.words 3)) (numbered_word kb (slice_index y.words 3))) (same_ref (numbered_word ka (slice_index x.words 4)) (numbered_word kb (slice_index y.words 4))) (same_ref (numbered_word ka (slice_index x.words 5)) (numbered_word kb (slice_index y.words 5)))
    (same_refs (map (numbered_word ka) (take (depth_in x.words) (drop 6 x.words))) (map (numbered_word kb) (take (depth_in y.words) (drop 6 y.words))))
    ∙ ap (λ (s : Bool). x.hash == y.hash && s && same_ref (numbered_word ka (slice_index x.words 0)) (numbered_word kb (slice_index y.words 0)) && same_pc (natural_of_word (slice_index x.words 1)) (natural_of_word (slice_index y.words 1))
    && same_ref (numbered_word ka (slice_index x.words 3)) (numbered_word kb (slice_index y.words 3)) && same_ref (numbered_word ka (slice_index x.words 4)) (numbered_word kb (slice_index y.words 4)) && same_ref (numbered_word ka (slice_index x.words 5)) (numbered_word kb (slice_index y.words 5))
    && same_refs (map (numbered_word ka) (take (depth_in x.words) (drop 6 x.words))) (map (numbered_word kb) (take (depth_in y.words) (drop 6 y.words)))) (sizes (length x.words) (length y.words) h i)

-- ---- two objects

module _ (ka : List ℕ) (osa : List Object) (a : ℕ) (kb : List ℕ) (osb : List Object) (b : ℕ) (sa : AreSoundObjects osa) (sb : AreSoundObjects osb) (ha : is_object osa a ≡ true) (hb : is_object osb b ≡ true) where
  found : (x y : Obj) → (t : There osa a) → (u : There osb b) → obj_of (numbered_word ka) t.x ≡ x → obj_of (numbered_word kb) u.x ≡ y → same_object x y ≡ same_objects_of ka osa a kb osb b
  found x y t u e f = sym (ap₂ same_found (numbered_there ka osa a t ∙ ap Some e) (numbered_there kb osb b u ∙ ap Some f))

  pub contexts_found : sort_at osa a ≡ Context → sort_at osb b ≡ Context → same_contexts_of ka osa a kb osb b ≡ same_objects_of ka osa a kb osb b
  contexts_found e f =
      let t = there osa a sa ha in
      let u = there osb b sb hb in
      let p : is_heap_context t.x ≡ true = is_context_by (is_heap_context t.x) (is_pointers t.x.format) (is_code t.x.format) (sym (sort_there osa a t) ∙ e) in
      let q : is_heap_context u.x ≡ true = is_context_by (is_heap_context u.x) (is_pointers u.x.format) (is_code u.x.format) (sym (sort_there osb b u) ∙ f) in
      let first : same_contexts_of ka osa a kb osb b ≡ same_context (context_of (numbered_word ka) t.x.hash t.x.words) (context_of (numbered_word kb) u.x.hash u.x.words) =
      rw (t.at, u.at) (context_tests ka kb t.x u.x (whole_context osa t.x t.sound p).fields (whole_context osb u.x u.sound q).fields) in
      first ∙ found _ _ t u (obj_of-context (numbered_word ka) t.x p) (obj_of-context (numbered_word kb) u.x q)

  pub pointers_found : sort_at osa a ≡ Pointers → sort_at osb b ≡ Pointers → same_pointers_of ka osa a kb osb b ≡ same_objects_of ka osa a kb osb b
  pointers_found e f =
      let t = there osa a sa ha in
      let u = there osb b sb hb in
      let p = is_pointers_by (is_heap_context t.x) (is_pointers t.x.format) (is_code t.x.format) (sym (sort_there osa a t) ∙ e) in
      let q = is_pointers_by (is_heap_context u.x) (is_pointers u.x.format) (is_code u.x.format) (sym (sort_there osb b u) ∙ f) in
      let x = obj_of-pointers (numbered_word ka) t.x p.0 p.1 in
      let y = obj_of-pointers (numbered_word kb) u.x q.0 q.1 in
      rw (t.at, u.at) (ap₂ same_object (sym x) (sym y))

  pub raw_found : sort_at osa a ≡ Raw → sort_at osb b ≡ Raw → same_raw_of ka osa a kb osb b ≡ same_objects_of ka osa a kb osb b
  raw_found e f =
      let t = there osa a sa ha in
      let u = there osb b sb hb in
      let p = is_raw_by (is_heap_context t.x) (is_pointers t.x.format) (is_code t.x.format) (sym (sort_there osa a t) ∙ e) in
      let q = is_raw_by (is_heap_context u.x) (is_pointers u.x.format) (is_code u.x.format) (sym (sort_there osb b u) ∙ f) in
      let x = obj_of-bytes (numbered_word ka) t.x p.0 p.1 p.2 in
      let y = obj_of-bytes (numbered_word kb) u.x q.0 q.1 q.2 in
      rw (t.at, u.at) (ap₂ same_object (sym x) (sym y))

  pub methods_found : sort_at osa a ≡ Method → sort_at osb b ≡ Method → same_methods_of ka osa a kb osb b ≡ same_objects_of ka osa a kb osb b
  methods_found e f =
      let t = there osa a sa ha in
      let u = there osb b sb hb in
      let p = is_method_by (is_heap_context t.x) (is_pointers t.x.format) (is_code t.x.format) (sym (sort_there osa a t) ∙ e) in
      let q = is_method_by (is_heap_context u.x) (is_pointers u.x.format) (is_code u.x.format) (sym (sort_there osb b u) ∙ f) in
      let x = obj_of-method (numbered_word ka) t.x p.0 p.1 p.2 in
      let y = obj_of-method (numbered_word kb) u.x q.0 q.1 q.2 in
      rw (t.at, u.at) (ap₂ same_object (sym x) (sym y))

  -- objects of two kinds differ
  pub kinds_differ : (sort_at osa a ≡ sort_at osb b → ⊥) → false ≡ same_objects_of ka osa a kb osb b
  kinds_differ ne =
      let t = there osa a sa ha in
      let u = there osb b sb hb in
      go t u (is_heap_context t.x) (is_pointers t.x.format) (is_code t.x.format) (is_heap_context u.x) (is_pointers u.x.format) (is_code u.x.format) refl refl refl refl refl refl
      (λ s. ne (sort_there osa a t ∙ s ∙ sym (sort_there osb b u)))
    where
      go : (t : There osa a) (u : There osb b) (b1 c1 d1 b2 c2 d2 : Bool) → is_heap_context t.x ≡ b1 → is_pointers t.x.format ≡ c1 → is_code t.x.format ≡ d1 → is_heap_context u.x ≡ b2 → is_pointers u.x.format ≡ c2 → is_code u.x.format ≡ d2
          → (sort_by (is_heap_context t.x) (is_pointers t.x.format) (is_code t.x.format) ≡ sort_by (is_heap_context u.x) (is_pointers u.x.format) (is_code u.x.format) → ⊥) → false ≡ same_objects_of ka osa a kb osb b
      go t u true c1 d1 true c2 d2 e1 e2 e3 e4 e5 e6 ne = absurd (ne (rw (e1, e4) refl))
      go t u true c1 d1 false true d2 e1 e2 e3 e4 e5 e6 ne = found _ _ t u (obj_of-context (numbered_word ka) t.x e1) (obj_of-pointers (numbered_word kb) u.x e4 e5)
      go t u true c1 d1 false false true e1 e2 e3 e4 e5 e6 ne = found _ _ t u (obj_of-context (numbered_word ka) t.x e1) (obj_of-method (numbered_word kb) u.x e4 e5 e6)
      go t u true c1 d1 false false false e1 e2 e3 e4 e5 e6 ne = found _ _ t u (obj_of-context (numbered_word ka) t.x e1) (obj_of-bytes (numbered_word kb) u.x e4 e5 e6)
      go t u false true d1 true c2 d2 e1 e2 e3 e4 e5 e6 ne = found _ _ t u (obj_of-pointers (numbered_word ka) t.x e1 e2) (obj_of-context (numbered_word kb) u.x e4)
      go t u false true d1 false true d2 e1 e2 e3 e4 e5 e6 ne = absurd (ne (rw (e1, e2, e4, e5) refl))
      go t u false true d1 false false true e1 e2 e3 e4 e5 e6 ne = found _ _ t u (obj_of-pointers (numbered_word ka) t.x e1 e2) (obj_of-method (numbered_word kb) u.x e4 e5 e6)
      go t u false true d1 false false false e1 e2 e3 e4 e5 e6 ne = found _ _ t u (obj_of-pointers (numbered_word ka) t.x e1 e2) (obj_of-bytes (numbered_word kb) u.x e4 e5 e6)
      go t u false false true true c2 d2 e1 e2 e3 e4 e5 e6 ne = found _ _ t u (obj_of-method (numbered_word ka) t.x e1 e2 e3) (obj_of-context (numbered_word kb) u.x e4)
      go t u false false true false true d2 e1 e2 e3 e4 e5 e6 ne = found _ _ t u (obj_of-method (numbered_word ka) t.x e1 e2 e3) (obj_of-pointers (numbered_word kb) u.x e4 e5)
      go t u false false true false false true e1 e2 e3 e4 e5 e6 ne = absurd (ne (rw (e1, e2, e3, e4, e5, e6) refl))
      go t u false false true false false false e1 e2 e3 e4 e5 e6 ne = found _ _ t u (obj_of-method (numbered_word ka) t.x e1 e2 e3) (obj_of-bytes (numbered_word kb) u.x e4 e5 e6)
      go t u false false false true c2 d2 e1 e2 e3 e4 e5 e6 ne = found _ _ t u (obj_of-bytes (numbered_word ka) t.x e1 e2 e3) (obj_of-context (numbered_word kb) u.x e4)
      go t u false false false false true d2 e1 e2 e3 e4 e5 e6 ne = found _ _ t u (obj_of-bytes (numbered_word ka) t.x e1 e2 e3) (obj_of-pointers (numbered_word kb) u.x e4 e5)
      go t u false false false false false true e1 e2 e3 e4 e5 e6 ne = found _ _ t u (obj_of-bytes (numbered_word ka) t.x e1 e2 e3) (obj_of-method (numbered_word kb) u.x e4 e5 e6)
      go t u false false false false false false e1 e2 e3 e4 e5 e6 ne = absurd (ne (rw (e1, e2, e3, e4, e5, e6) refl))

-- ---- all objects

module _ (F : ℕ → Option Obj) where
  abbrev Found : List ℕ → Type 0
  Found keys = All (λ a. is_some (F a) ≡ true) keys

  listed-length : (keys : List ℕ) → Found keys → length (filter_map F keys) ≡ length keys
  listed-length [] all = refl
  listed-length (a ∷ keys) all = go (F a) (head_of_all (λ (x : ℕ). is_some (F x) ≡ true) a keys all) (listed-length keys (tail_of_all (λ (x : ℕ). is_some (F x) ≡ true) a keys all))
    where
      go : (o : Option Obj) → is_some o ≡ true → length (filter_map F keys) ≡ length keys → length (cons_option o (filter_map F keys)) ≡ suc (length keys)
      go None h rest = absurd (false≢true h)
      go (Some x) h rest = ap suc rest

  -- the object at a place, and those behind it
  listed-drop : (keys : List ℕ) (i : ℕ) → Found keys → i < length keys → (x : Obj) × ((F (get_or keys i 0) ≡ Some x) × (drop i (filter_map F keys) ≡ x ∷ drop (suc i) (filter_map F keys)))
  listed-drop [] i all less = absurd (omega (arith, less))
  listed-drop (a ∷ keys) zero all less = go (F a) (head_of_all (λ (x : ℕ). is_some (F x) ≡ true) a keys all)
    where
      go : (o : Option Obj) → is_some o ≡ true → (x : Obj) × ((o ≡ Some x) × (cons_option o (filter_map F keys) ≡ x ∷ drop 1 (cons_option o (filter_map F keys))))
      go None h = absurd (false≢true h)
      go (Some x) h = (x, (refl, refl))
  listed-drop (a ∷ keys) (suc i) all less = go (F a) (head_of_all (λ (x : ℕ). is_some (F x) ≡ true) a keys all) (listed-drop keys i (tail_of_all (λ (x : ℕ). is_some (F x) ≡ true) a keys all) (omega (arith, less)))
    where
      go : (o : Option Obj) → is_some o ≡ true → (x : Obj) × ((F (get_or keys i 0) ≡ Some x) × (drop i (filter_map F keys) ≡ x ∷ drop (suc i) (filter_map F keys)))
          → (x : Obj) × ((F (get_or keys i 0) ≡ Some x) × (drop (suc i) (cons_option o (filter_map F keys)) ≡ x ∷ drop (suc (suc i)) (cons_option o (filter_map F keys))))
      go None h rest = absurd (false≢true h)
      go (Some y) h rest = rest

drop_none : (xs : List Obj) (n : ℕ) → length xs ≤ n → drop n xs ≡ []
drop_none [] zero h = refl
drop_none [] (suc n) h = refl
drop_none (x ∷ xs) zero h = absurd (omega (arith, h))
drop_none (x ∷ xs) (suc n) h = drop_none xs n (omega (arith, h))

drop_some : (xs : List Obj) (n : ℕ) → n < length xs → (y : Obj) × ((ys : List Obj) × (drop n xs ≡ y ∷ ys))
drop_some [] n h = absurd (omega (arith, h))
drop_some (x ∷ xs) zero h = (x, (xs, refl))
drop_some (x ∷ xs) (suc n) h = drop_some xs n (omega (arith, h))

module _ (ka : List ℕ) (osa : List Object) (kb : List ℕ) (osb : List Object) (sa : AreSoundObjects osa) (sb : AreSoundObjects osb) (alla : AllPass (is_object osa) ka) (allb : AllPass (is_object osb) kb) where
  abbrev pub left : ℕ → Option ℕ
  left i = first_difference (i + 1) (drop i (numbered_objects ka osa)) (drop i (numbered_objects kb osb))

  numbered_found : (k : List ℕ) (os : List Object) → AreSoundObjects os → (keys : List ℕ) → AllPass (is_object os) keys → All (λ a. is_some (numbered_object k os a) ≡ true) keys
  numbered_found k os s keys all = λ i d l. ap is_some (numbered_there k os (get_or keys i d) (there os (get_or keys i d) s (all i d l)))

  step : (i : ℕ) → i < length ka → i < length kb
      → left i ≡ (if same_objects_of ka osa (get_or ka i 0) kb osb (get_or kb i 0) then left (i + 1) else Some (i + 1))
  step i p q =
      let x = listed-drop (numbered_object ka osa) ka i (numbered_found ka osa sa ka alla) p in
      let y = listed-drop (numbered_object kb osb) kb i (numbered_found kb osb sb kb allb) q in
      let one : suc i ≡ i + 1 = omega arith in
      ap₂ (first_difference (i + 1)) x.1.1 y.1.1
      ∙ ap (λ (n : ℕ). if same_object x.0 y.0 then first_difference (i + 1 + 1) (drop n (numbered_objects ka osa)) (drop n (numbered_objects kb osb)) else Some (i + 1)) one
      ∙ ap (λ (b : Bool). if b then left (i + 1) else Some (i + 1)) (sym (ap₂ same_found x.1.0 y.1.0))

  pub objects_more : (i : ℕ) (r : Bool) → i < length ka → i < length kb → r ≡ same_objects_of ka osa (get_or ka i 0) kb osb (get_or kb i 0) → r ≡ true → left (i + 1) ≡ left i
  objects_more i r p q e t = sym (step i p q ∙ ap (λ (b : Bool). if b then left (i + 1) else Some (i + 1)) (sym e ∙ t))

  pub objects_stop : (i : ℕ) (r : Bool) → i < length ka → i < length kb → r ≡ same_objects_of ka osa (get_or ka i 0) kb osb (get_or kb i 0) → r ≡ false → Some (i + 1) ≡ left i
  objects_stop i r p q e t = sym (step i p q ∙ ap (λ (b : Bool). if b then left (i + 1) else Some (i + 1)) (sym e ∙ t))

  pub objects_end : (i : ℕ) → length ka ≤ i → length kb ≤ i → None ≡ left i
  objects_end i p q =
      sym (ap₂ (first_difference (i + 1))
      (drop_none (numbered_objects ka osa) i (omega (arith, p, listed-length (numbered_object ka osa) ka (numbered_found ka osa sa ka alla))))
      (drop_none (numbered_objects kb osb) i (omega (arith, q, listed-length (numbered_object kb osb) kb (numbered_found kb osb sb kb allb)))))

  pub objects_fewer : (i : ℕ) → length ka ≤ i → i < length kb → Some (i + 1) ≡ left i
  objects_fewer i p q =
      let y = drop_some (numbered_objects kb osb) i (omega (arith, q, listed-length (numbered_object kb osb) kb (numbered_found kb osb sb kb allb))) in
      sym (ap₂ (first_difference (i + 1)) (drop_none (numbered_objects ka osa) i (omega (arith, p, listed-length (numbered_object ka osa) ka (numbered_found ka osa sa ka alla)))) y.1.1)

  pub objects_further : (i : ℕ) → i < length ka → length kb ≤ i → Some (i + 1) ≡ left i
  objects_further i p q =
      let x = drop_some (numbered_objects ka osa) i (omega (arith, p, listed-length (numbered_object ka osa) ka (numbered_found ka osa sa ka alla))) in
      sym (ap₂ (first_difference (i + 1)) x.1.1 (drop_none (numbered_objects kb osb) i (omega (arith, q, listed-length (numbered_object kb osb) kb (numbered_found kb osb sb kb allb)))))

  pub objects_left : (i c m n : ℕ) → m ≡ length ka → n ≡ length kb → c ≡ min m n → c ≤ i → i ≤ c → (m ≡ n → ⊥) → Some (c + 1) ≡ left i
  objects_left i c m n e f g h k ne = go (nat_lt m n) refl
    where
      same : c ≡ i
      same = omega (arith, h, k)

      go : (b : Bool) → nat_lt m n ≡ b → Some (c + 1) ≡ left i
      go true l = ap (λ (x : ℕ). Some (x + 1)) same ∙ objects_fewer i (omega (arith, e, f, g, h, ltb-true m n l)) (omega (arith, e, f, g, k, ltb-true m n l))
      go false l = ap (λ (x : ℕ). Some (x + 1)) same ∙ objects_further i (omega (arith, e, f, g, k, ltb-false m n l, λ (s : m ≡ n). ne s)) (omega (arith, e, f, g, h, ltb-false m n l))

-- ---- class tables

same_pairs : (xs ys : List (ℕ × ℕ)) → same_class_numbers xs ys ≡ true → xs ≡ ys
same_pairs [] [] h = refl
same_pairs [] (y ∷ ys) h = absurd (false≢true h)
same_pairs (x ∷ xs) [] h = absurd (false≢true h)
same_pairs (x ∷ xs) (y ∷ ys) h =
    let p = parts (x.0 == y.0) (x.1 == y.1) (same_class_numbers xs ys) h in
    ap₂ (λ (e : ℕ × ℕ) (es : List (ℕ × ℕ)). e ∷ es) (ap₂ (λ (i j : ℕ). (i, j)) (eqb-true x.0 y.0 p.0) (eqb-true x.1 y.1 p.1)) (same_pairs xs ys p.2)
  where
    parts : (a b c : Bool) → ((a && b) && c) ≡ true → (a ≡ true) × (b ≡ true) × (c ≡ true)
    parts true true c h = (refl, refl, h)
    parts true false c h = absurd (false≢true h)
    parts false b c h = absurd (false≢true h)

same_self : (xs : List (ℕ × ℕ)) → same_class_numbers xs xs ≡ true
same_self [] = refl
same_self (x ∷ xs) = ap₂ (λ (a b : Bool). (a && b) && same_class_numbers xs xs) (eq-eqb x.0 x.0 refl) (eq-eqb x.1 x.1 refl) ∙ same_self xs

-- entries with other values
abbrev pub valued : (ℕ → ℕ) → List (ℕ × ℕ) → List (ℕ × ℕ)
valued g es = map (λ e. (e.0, g e.1)) es

pub find-valued : (g : ℕ → ℕ) (q : ℕ) (es : List (ℕ × ℕ)) → find nat_cmp q (map (λ e. (e.0, g e.1)) es) ≡ option_map g (find nat_cmp q es)
find-valued g q [] = refl
find-valued g q (e ∷ es) = go (eq_by_cmp nat_cmp q e.0) (find-valued g q es)
  where
    go : (b : Bool) → find nat_cmp q (map (λ (d : ℕ × ℕ). (d.0, g d.1)) es) ≡ option_map g (find nat_cmp q es)
        → cond b (Some (g e.1)) (find nat_cmp q (map (λ (d : ℕ × ℕ). (d.0, g d.1)) es)) ≡ option_map g (cond b (Some e.1) (find nat_cmp q es))
    go true h = refl
    go false h = h

below-valued : (g : ℕ → ℕ) (q : ℕ) (es : List (ℕ × ℕ)) → below_all nat_cmp q (map (λ e. (e.0, g e.1)) es) ≡ below_all nat_cmp q es
below-valued g q [] = refl
below-valued g q (e ∷ es) = ap (λ (b : Bool). is_lt (nat_cmp q e.0) && b) (below-valued g q es)

sorted-valued : (g : ℕ → ℕ) (es : List (ℕ × ℕ)) → is_sorted nat_cmp (map (λ e. (e.0, g e.1)) es) ≡ is_sorted nat_cmp es
sorted-valued g [] = refl
sorted-valued g (e ∷ es) = ap₂ (λ (a b : Bool). a && b) (below-valued g e.0 es) (sorted-valued g es)

-- tables with values of these forms are one list where they agree at each index
pub valued_alike : (g h : ℕ → ℕ) (m n : FinMap nat_cmp ℕ) → ((q : ℕ) → option_map g (get m q) ≡ option_map h (get n q)) → valued g (entries m) ≡ valued h (entries n)
valued_alike g h m n alike =
    same_entries nat_cmp nat_cmp_total nat_cmp-IsAntisymmetric (valued g (entries m)) (valued h (entries n))
    (subst T (sym (sorted-valued g (entries m))) (entries_sorted m)) (subst T (sym (sorted-valued h (entries n))) (entries_sorted n))
    (λ q. find-valued g q (entries m) ∙ ap (option_map g) (sym (get-entries m q)) ∙ alike q ∙ ap (option_map h) (get-entries n q) ∙ sym (find-valued h q (entries n)))

pub entry_alike : (x y : Option ℕ) (r : Bool) → r ≡ same_entry x y → r ≡ true → x ≡ y
entry_alike None None r e t = refl
entry_alike None (Some n) r e t = absurd (false≢true (sym e ∙ t))
entry_alike (Some m) None r e t = absurd (false≢true (sym e ∙ t))
entry_alike (Some m) (Some n) r e t = ap Some (eqb-true m n (sym e ∙ t))

entry_self : (x : Option ℕ) → same_entry x x ≡ true
entry_self None = refl
entry_self (Some n) = eq-eqb n n refl

pub classes_same : (ka kb : List ℕ) (m n : FinMap nat_cmp ℕ) → ((q : ℕ) → option_map (address_number ka) (get m q) ≡ option_map (address_number kb) (get n q)) → true ≡ same_class_numbers (class_numbers ka m) (class_numbers kb n)
classes_same ka kb m n alike = sym (ap (same_class_numbers (class_numbers ka m)) (sym (valued_alike (address_number ka) (address_number kb) m n alike)) ∙ same_self (class_numbers ka m))

pub classes_other : (ka kb : List ℕ) (m n : FinMap nat_cmp ℕ) (q : ℕ) (r : Bool) → r ≡ same_entry (option_map (address_number ka) (get m q)) (option_map (address_number kb) (get n q)) → r ≡ false → false ≡ same_class_numbers (class_numbers ka m) (class_numbers kb n)
classes_other ka kb m n q r e f = false_of (same_class_numbers (class_numbers ka m) (class_numbers kb n)) (λ s.
    let lists = same_pairs (class_numbers ka m) (class_numbers kb n) s in
    let one : option_map (address_number ka) (get m q) ≡ option_map (address_number kb) (get n q) =
    ap (option_map (address_number ka)) (get-entries m q) ∙ sym (find-valued (address_number ka) q (entries m)) ∙ ap (find nat_cmp q) lists ∙ find-valued (address_number kb) q (entries n) ∙ ap (option_map (address_number kb)) (sym (get-entries n q)) in
    false≢true (sym f ∙ e ∙ ap (same_entry (option_map (address_number ka) (get m q))) (sym one) ∙ entry_self (option_map (address_number ka) (get m q))))

pub classes_more : (ka kb : List ℕ) (m n : FinMap nat_cmp ℕ) (i : ℕ) (r : Bool) → ((q : ℕ) → q < i → option_map (address_number ka) (get m q) ≡ option_map (address_number kb) (get n q))
    → r ≡ same_entry (option_map (address_number ka) (get m i)) (option_map (address_number kb) (get n i)) → r ≡ true
    → (q : ℕ) → q < i + 1 → option_map (address_number ka) (get m q) ≡ option_map (address_number kb) (get n q)
classes_more ka kb m n i r below e t q less = go (nat_lt q i) refl
  where
    go : (b : Bool) → nat_lt q i ≡ b → option_map (address_number ka) (get m q) ≡ option_map (address_number kb) (get n q)
    go true l = below q (ltb-true q i l)
    go false l =
        let same : i ≡ q = omega (arith, less, ltb-false q i l) in
        subst (λ (k : ℕ). option_map (address_number ka) (get m k) ≡ option_map (address_number kb) (get n k)) same (entry_alike (option_map (address_number ka) (get m i)) (option_map (address_number kb) (get n i)) r e t)

-- a table with no index from 16,384 on
pub classes_all : (ka kb : List ℕ) (m n : FinMap nat_cmp ℕ) (i : ℕ) → ((q a : ℕ) → get m q ≡ Some a → q < 16384) → ((q a : ℕ) → get n q ≡ Some a → q < 16384) → 16384 ≤ i
    → ((q : ℕ) → q < i → option_map (address_number ka) (get m q) ≡ option_map (address_number kb) (get n q))
    → (q : ℕ) → option_map (address_number ka) (get m q) ≡ option_map (address_number kb) (get n q)
classes_all ka kb m n i wm wn past below q = go (nat_lt q i) refl (get m q) refl (get n q) refl
  where
    go : (b : Bool) → nat_lt q i ≡ b → (x : Option ℕ) → get m q ≡ x → (y : Option ℕ) → get n q ≡ y → option_map (address_number ka) (get m q) ≡ option_map (address_number kb) (get n q)
    go true l x e y f = below q (ltb-true q i l)
    go false l None e None f = ap (option_map (address_number ka)) e ∙ sym (ap (option_map (address_number kb)) f)
    go false l (Some a) e y f = absurd (omega (arith, wm q a e, past, ltb-false q i l))
    go false l None e (Some a) f = absurd (omega (arith, wn q a f, past, ltb-false q i l))

-- ---- the place that is told

pub difference_within : (place : ℕ) (xs ys : List Obj) (p : ℕ) → first_difference place xs ys ≡ Some p → p ≤ place + length xs
difference_within place [] [] p h = absurd (cc)
difference_within place [] (y ∷ ys) p h = let e : place ≡ p = cc in omega (arith, e)
difference_within place (x ∷ xs) [] p h = let e : place ≡ p = cc in omega (arith, e)
difference_within place (x ∷ xs) (y ∷ ys) p h = go (same_object x y) h (difference_within (place + 1) xs ys p)
  where
    go : (b : Bool) → (if b then first_difference (place + 1) xs ys else Some place) ≡ Some p → (first_difference (place + 1) xs ys ≡ Some p → p ≤ place + 1 + length xs) → p ≤ place + suc (length xs)
    go true e rest = let l = rest e in omega (arith, l)
    go false e rest = let f : place ≡ p = cc in omega (arith, f)

pub told_within : (ka kb : List ℕ) (osa osb : List Object) (same : Bool) (p : ℕ) → AreSoundObjects osa → AllPass (is_object osa) ka → length ka ≤ length osa
    → difference_from same (numbered_objects ka osa) (numbered_objects kb osb) ≡ Some p → p ≤ length osa + 1
told_within ka kb osa osb true p sound all few h =
    let l = difference_within 1 (numbered_objects ka osa) (numbered_objects kb osb) p h in
    omega (arith, l, few, listed-length (numbered_object ka osa) ka (λ i d l. ap is_some (numbered_there ka osa (get_or ka i d) (there osa (get_or ka i d) sound (all i d l)))))
told_within ka kb osa osb false p sound all few h = let e : 0 ≡ p = cc in omega (arith, e)

pub few_objects : (os : List Object) → length os ≤ used os
few_objects [] = omega arith
few_objects (x ∷ os) =
    let rest = few_objects os in
    let whole = sum_by-cons size (length x.words) (slot_counts os) in
    let some : 1 ≤ size (length x.words) = omega arith in
    omega (arith, rest, whole, some)
