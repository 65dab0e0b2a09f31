-- Going over the objects of a heap.
use Rattle.std.proofs.Common.{◌≡◌, ◌≢◌, ℕ, zero, suc, ◌+◌, ◌-◌, ◌%◌, ◌^◌, ◌<◌, ◌≤◌, ◌==◌, ◌⊎◌, inl, inr, Bool, true, false, cond, not, List, [], ◌∷◌, ◌++◌, length, drop, filter, get_or, set, Option, Some, None, refl, ap, sym, subst, ◌∙◌, arith, leb, slice_get, slice_index, option_map, map, replicate, append_assoc, length-drop}
use Rattle.std.proofs.lemmas.List.{append-nil, length-take-le, length-append, length-replicate, length-set, map-append, get_or-set_same, get_or-set_other}
use Rattle.std.proofs.lemmas.Bool.Decides.{nat_tests, eqb_tells}
use Rattle.cs_model.specs.ImageFile.{FileObject, Cut, nothing, in_front, cut_behind, cut_from, cut_of, object_from, object_within, object_with, bits_at, top_byte, end_at, object_end, stands}
use Rattle.cs_model.specs.ImageFault.{bad_object, is_well_formed}
use Rattle.cs_image.specs.declared.file.Placed.{Placed}
use Rattle.cs_image.specs.Heap.{is_faulty, placed_object, IsIndexed}

-- the objects from a place on
abbrev pub rest : List ℕ → ℕ → Cut
rest heap at = cut_from (length heap - at) heap at

-- what is found begins here, and ends behind this place
record Ends (from : ℕ) (r : Option FileObject) : Type 0 where
  behind_it : (x : FileObject) → r ≡ Some x → from < object_end x
  begins : (x : FileObject) → r ≡ Some x → x.first ≡ from

ends_none : (from : ℕ) → Ends from None
ends_none from = record { behind_it = λ x h. absurd (cc); begins = λ x h. absurd (cc) }

ends_cond : (from : ℕ) (b : Bool) (r s : Option FileObject) → Ends from r → Ends from s → Ends from (cond b r s)
ends_cond from true r s h k = h
ends_cond from false r s h k = k

ends_within : (heap : List ℕ) (from place slots : ℕ) → from ≤ place → Ends from (object_within heap from place slots)
ends_within heap from place slots h = ends_cond _ _ _ _ (record { behind_it = λ x e. go x e; begins = λ x e. at x e }) (ends_none from)
  where
    go : (x : FileObject) → Some (object_with heap from place (bits_at heap place) slots) ≡ Some x → from < object_end x
    go x e = let at : place ≡ x.place = cc in omega (arith, at, h)

    at : (x : FileObject) → Some (object_with heap from place (bits_at heap place) slots) ≡ Some x → x.first ≡ from
    at x e = cc

found_there : (heap : List ℕ) (from : ℕ) → Ends from (object_from heap from)
unfolding object_from
found_there heap from = ends_cond from (not (top_byte (bits_at heap from) == 255)) _ _ (ends_within heap from from (top_byte (bits_at heap from)) (omega arith))
    (ends_cond from (top_byte (bits_at heap (from + 2)) == 255) _ _ (ends_within heap from (from + 2) (bits_at heap from % 2 ^ 56) (omega arith)) (ends_none from))

pub ends_after : (heap : List ℕ) (from : ℕ) (x : FileObject) → object_from heap from ≡ Some x → from < object_end x
ends_after heap from x e = (found_there heap from).behind_it x e

-- enough is enough
cut_enough : (f g : ℕ) (heap : List ℕ) (from : ℕ) → length heap - from ≤ f → length heap - from ≤ g → cut_from f heap from ≡ cut_from g heap from
unfolding cut_from
cut_enough zero zero heap from h k = refl
cut_enough zero (suc g) heap from h k = let e : leb (length heap) from ≡ true = grind (arith, nat_tests, h) in rw e refl
cut_enough (suc f) zero heap from h k = let e : leb (length heap) from ≡ true = grind (arith, nat_tests, k) in rw e refl
cut_enough (suc f) (suc g) heap from h k =
    ap (λ (r : Cut). cond (leb (length heap) from) nothing r) (go (object_from heap from) (λ (x : FileObject) (e : object_from heap from ≡ Some x).
    cut_enough f g heap (object_end x) (omega (arith, ends_after heap from x e, h)) (omega (arith, ends_after heap from x e, k))))
  where
    go : (r : Option FileObject) → ((x : FileObject) → r ≡ Some x → cut_from f heap (object_end x) ≡ cut_from g heap (object_end x))
        → cut_behind from r (λ o. cut_from f heap (object_end o)) ≡ cut_behind from r (λ o. cut_from g heap (object_end o))
    go (Some x) same = ap (in_front x) (same x refl)
    go None same = refl

-- one object, and then the others
pub rest_next : (heap : List ℕ) (from : ℕ) (r : Option FileObject) → from < length heap → object_from heap from ≡ r
    → rest heap from ≡ cut_behind from r (λ o. rest heap (object_end o))
unfolding cut_from
rest_next heap from r h e = step (length heap - from) refl
  where
    go : (n : ℕ) (s : Option FileObject) → ((x : FileObject) → s ≡ Some x → cut_from n heap (object_end x) ≡ rest heap (object_end x))
        → cut_behind from s (λ o. cut_from n heap (object_end o)) ≡ cut_behind from s (λ o. rest heap (object_end o))
    go n (Some x) same = ap (in_front x) (same x refl)
    go n None same = refl

    step : (n : ℕ) → length heap - from ≡ n → cut_from n heap from ≡ cut_behind from r (λ o. rest heap (object_end o))
    step zero at = absurd (omega (arith, h, at))
    step (suc n) at =
        let more : leb (length heap) from ≡ false = grind (arith, nat_tests, h) in
        rw (more, e) (go n r (λ (x : FileObject) (is : r ≡ Some x). cut_enough n (length heap - object_end x) heap (object_end x)
        (omega (arith, at, ends_after heap from x (e ∙ is))) (omega arith)))

pub rest_end : (heap : List ℕ) (from : ℕ) → length heap ≤ from → rest heap from ≡ nothing
unfolding cut_from
rest_end heap from h = step (length heap - from)
  where
    step : (n : ℕ) → cut_from n heap from ≡ nothing
    step zero = refl
    step (suc n) = let e : leb (length heap) from ≡ true = grind (arith, nat_tests, h) in rw e refl

pub rest_all : (heap : List ℕ) → rest heap 0 ≡ cut_of heap
rest_all heap = ap (λ (n : ℕ). cut_from n heap 0) (omega arith)

-- ---- faults

-- a faulty object is the first one of what is left
pub faulty_here : (heap : List ℕ) (at : ℕ) → at < length heap → is_faulty (object_from heap at) ≡ true → bad_object (rest heap at) ≡ Some at
unfolding bad_object
faulty_here heap at h bad = ap bad_object (rest_next heap at (object_from heap at) h refl) ∙ go (object_from heap at) refl bad
  where
    go : (r : Option FileObject) → object_from heap at ≡ r → is_faulty r ≡ true → bad_object (cut_behind at r (λ o. rest heap (object_end o))) ≡ Some at
    go None e f = refl
    go (Some x) e f = rw f (ap Some ((found_there heap at).begins x e))

-- a sound one is none
pub sound_here : (heap : List ℕ) (at : ℕ) (x : FileObject) → at < length heap → object_from heap at ≡ Some x → is_faulty (Some x) ≡ false
    → bad_object (rest heap at) ≡ bad_object (rest heap (object_end x))
unfolding bad_object
sound_here heap at x h e f = ap bad_object (rest_next heap at (Some x) h e) ∙ rw f refl

-- ---- the index of objects

get_kept : {X : Type 0} (xs ys : List X) (k : ℕ) (x : X) → slice_get xs k ≡ Some x → slice_get (xs ++ ys) k ≡ Some x
get_kept [] ys k x e = absurd (cc)
get_kept (y ∷ xs) ys zero x e = e
get_kept (y ∷ xs) ys (suc k) x e = get_kept xs ys k x e

get_last : {X : Type 0} (xs : List X) (y : X) → slice_get (xs ++ y ∷ []) (length xs) ≡ Some y
get_last [] y = refl
get_last (x ∷ xs) y = get_last xs y

get_pushed : {X : Type 0} (xs : List X) (y : X) (k : ℕ) (x : X) → slice_get (xs ++ y ∷ []) k ≡ Some x → (slice_get xs k ≡ Some x) ⊎ ((k ≡ length xs) × (x ≡ y))
get_pushed [] y zero x e = inr (refl, cc)
get_pushed [] y (suc k) x e = absurd (cc)
get_pushed (z ∷ xs) y zero x e = inl e
get_pushed (z ∷ xs) y (suc k) x e = elim (get_pushed xs y k x e) [ inl h ↦ inl h | inr h ↦ inr (ap suc h.0, h.1) ]

-- an object lies within the heap, its class index and hash fit a header, and it is well formed
record IsIn (heap : List ℕ) (o : Placed) : Type 0 where
  within : o.place + 2 + o.slots ≤ length heap
  class : o.class < 2 ^ 22
  hash : o.hash < 2 ^ 22
  well_formed : is_well_formed (placed_object heap o) ≡ true

index_more : (heap : List ℕ) (objects : List Placed) (starts : List ℕ) (o : Placed) → IsIndexed heap objects starts → slice_index starts o.place ≡ 0
    → IsIn heap o → IsIndexed heap (objects ++ o ∷ []) (set starts o.place (length objects + 1))
index_more heap objects starts o i free lies = record {
  long = length-set starts o.place (length objects + 1) ∙ i.long;
  within = λ k x e. (each k x e).within;
  class = λ k x e. (each k x e).class;
  hash = λ k x e. (each k x e).hash;
  well_formed = λ k x e. (each k x e).well_formed;
  found = λ k x e. elim (get_pushed objects o k x e) as (λ _. get_or (set starts o.place (length objects + 1)) x.place 0 ≡ k + 1) [
    | inl h ↦ let other : x.place ≢ o.place = (λ same. absurd (omega (arith, free, i.found k x h, ap (slice_index starts) same))) in
        get_or-set_other starts o.place x.place (length objects + 1) 0 other ∙ i.found k x h
    | inr h ↦ ap (λ (y : Placed). get_or (set starts o.place (length objects + 1)) y.place 0) h.1 ∙ here ∙ ap (λ n. n + 1) (sym h.0)
  ];
  only = λ place k e. elim (eqb_tells place o.place) as (λ _. option_map (λ (x : Placed). x.place) (slice_get (objects ++ o ∷ []) k) ≡ Some place) [
    | inl h ↦
        let number : length objects + 1 ≡ k + 1 = sym here ∙ ap (λ p. get_or (set starts o.place (length objects + 1)) p 0) (sym h.1) ∙ e in
        let same : k ≡ length objects = omega (arith, number) in
        ap (λ n. option_map (λ (x : Placed). x.place) (slice_get (objects ++ o ∷ []) n)) same ∙ ap (option_map (λ (x : Placed). x.place)) (get_last objects o) ∙ ap Some (sym h.1)
    | inr h ↦ old place k (i.only place k (sym (get_or-set_other starts o.place place (length objects + 1) 0 h.1) ∙ e)) (slice_get objects k) refl
  ];
}
  where
    each : (k : ℕ) (x : Placed) → slice_get (objects ++ o ∷ []) k ≡ Some x → IsIn heap x
    each k x e = elim (get_pushed objects o k x e) [
      | inl h ↦ record { within = i.within k x h; class = i.class k x h; hash = i.hash k x h; well_formed = i.well_formed k x h }
      | inr h ↦ rw h.1 lies
    ]

    here : get_or (set starts o.place (length objects + 1)) o.place 0 ≡ length objects + 1
    here = get_or-set_same starts o.place (length objects + 1) 0 (omega (arith, i.long, lies.within))

    old : (place k : ℕ) → option_map (λ (x : Placed). x.place) (slice_get objects k) ≡ Some place → (r : Option Placed) → slice_get objects k ≡ r
        → option_map (λ (x : Placed). x.place) (slice_get (objects ++ o ∷ []) k) ≡ Some place
    old place k e None is = absurd (cc)
    old place k e (Some x) is = ap (option_map (λ (y : Placed). y.place)) (get_kept objects (o ∷ []) k x is ∙ sym is) ∙ e

-- what the loop over a heap has found so far
pub record IsCutTo (words : List ℕ) (objects : List Placed) (starts : List ℕ) (at : ℕ) : Type 0 where
  pub kept : map (placed_object words) objects ++ filter stands (rest words at).objects ≡ filter stands (cut_of words).objects
  pub fault : bad_object (rest words at) ≡ bad_object (cut_of words)
  pub index : IsIndexed words objects starts
  pub ahead : (place : ℕ) → at ≤ place → slice_index starts place ≡ 0
  pub count : length objects ≤ at

pub none_cut : (words : List ℕ) → IsCutTo words [] (replicate (length words) 0) 0
none_cut words = record {
  kept = ap (λ (c : Cut). filter stands c.objects) (rest_all words);
  fault = ap bad_object (rest_all words);
  index = record {
    long = length-replicate (length words) 0;
    within = λ k o e. absurd (cc);
    class = λ k o e. absurd (cc);
    hash = λ k o e. absurd (cc);
    well_formed = λ k o e. absurd (cc);
    found = λ k o e. absurd (cc);
    only = λ place k e. let z = zeros (length words) place in absurd (omega (arith, e, z));
  };
  ahead = λ place h. zeros (length words) place;
  count = omega arith;
}
  where
    zeros : (n place : ℕ) → slice_index (replicate n 0) place ≡ 0
    zeros zero place = refl
    zeros (suc n) zero = refl
    zeros (suc n) (suc place) = zeros n place

-- an object that was found there
pub record IsNext (words : List ℕ) (at : ℕ) (o : Placed) : Type 0 where
  here : at < length words
  is : Some (placed_object words o) ≡ object_from words at
  sound : is_faulty (object_from words at) ≡ false
  within : end_at o.place o.slots ≤ length words
  behind : at ≤ o.place
  class : o.class < 2 ^ 22
  hash : o.hash < 2 ^ 22

-- and was looked for in the slice of the words
pub next_is : (words heap : List ℕ) → heap ≡ words → (at : ℕ) (o : Placed) → at < length words → Some (placed_object heap o) ≡ object_from heap at
    → false ≡ is_faulty (object_from heap at) → end_at o.place o.slots ≤ length heap → at ≤ o.place → o.class < 2 ^ 22 → o.hash < 2 ^ 22 → IsNext words at o
next_is words heap same at o h e f w b class hash = record {
  here = h;
  is = let P : List ℕ → Type 0 = λ ws. Some (placed_object ws o) ≡ object_from ws at in subst P same e;
  sound = let P : List ℕ → Type 0 = λ ws. is_faulty (object_from ws at) ≡ false in subst P same (sym f);
  within = let P : List ℕ → Type 0 = λ ws. end_at o.place o.slots ≤ length ws in subst P same w;
  behind = b;
  class = class;
  hash = hash;
}

slots_lie : (words : List ℕ) (o : Placed) → end_at o.place o.slots ≤ length words → o.place + 2 + o.slots ≤ length words
slots_lie words o h = omega (arith, h)

end_is : (words : List ℕ) (o : Placed) → end_at o.place o.slots ≤ length words → object_end (placed_object words o) ≡ end_at o.place o.slots
end_is words o h =
    let lies = slots_lie words o h in
    let room : o.slots ≤ length (drop (o.place + 2) words) = simp length-drop (omega (arith, lies)) in
    ap (end_at o.place) (length-take-le o.slots (drop (o.place + 2) words) room)

next_rest : (words : List ℕ) (at : ℕ) (o : Placed) → IsNext words at o → rest words at ≡ in_front (placed_object words o) (rest words (end_at o.place o.slots))
next_rest words at o n =
    rest_next words at (Some (placed_object words o)) n.here (sym n.is)
    ∙ ap (λ e. in_front (placed_object words o) (rest words e)) (end_is words o n.within)

next_fault : (words : List ℕ) (at : ℕ) (o : Placed) → IsNext words at o → bad_object (rest words (end_at o.place o.slots)) ≡ bad_object (rest words at)
next_fault words at o n =
    ap (λ e. bad_object (rest words e)) (sym (end_is words o n.within))
    ∙ sym (sound_here words at (placed_object words o) n.here (sym n.is) (ap is_faulty n.is ∙ n.sound))

pub next_skipped : (words : List ℕ) (objects : List Placed) (starts : List ℕ) (at : ℕ) (o : Placed) → IsCutTo words objects starts at → IsNext words at o
    → o.class ≡ 0 → IsCutTo words objects starts (end_at o.place o.slots)
next_skipped words objects starts at o i n skipped = record {
  kept = ap (λ (rest_of : List FileObject). map (placed_object words) objects ++ rest_of) (sym left) ∙ i.kept;
  fault = next_fault words at o n ∙ i.fault;
  index = i.index;
  ahead = λ place p. i.ahead place (omega (arith, p, n.behind));
  count = omega (arith, i.count, n.behind);
}
  where
    out : stands (placed_object words o) ≡ false
    out = grind (arith, nat_tests, skipped)

    left : filter stands (rest words at).objects ≡ filter stands (rest words (end_at o.place o.slots)).objects
    left = ap (λ (c : Cut). filter stands c.objects) (next_rest words at o n) ∙ rw out refl

pub next_kept : (words : List ℕ) (objects : List Placed) (starts : List ℕ) (at : ℕ) (o : Placed) → IsCutTo words objects starts at → IsNext words at o
    → o.class ≢ 0 → IsCutTo words (objects ++ o ∷ []) (set starts o.place (length objects + 1)) (end_at o.place o.slots)
next_kept words objects starts at o i n kept = record {
  kept = ap (λ (front : List FileObject). front ++ filter stands (rest words (end_at o.place o.slots)).objects) (map-append (placed_object words) objects (o ∷ []))
      ∙ append_assoc (map (placed_object words) objects) (placed_object words o ∷ []) (filter stands (rest words (end_at o.place o.slots)).objects)
      ∙ ap (λ (rest_of : List FileObject). map (placed_object words) objects ++ rest_of) (sym left) ∙ i.kept;
  fault = next_fault words at o n ∙ i.fault;
  index = index_more words objects starts o i.index (i.ahead o.place n.behind)
      (record { within = slots_lie words o n.within; class = n.class; hash = n.hash; well_formed = formed (is_well_formed (placed_object words o)) refl });
  ahead = λ place p. let other : place ≢ o.place = (λ same. absurd (omega (arith, p, same))) in
      get_or-set_other starts o.place place (length objects + 1) 0 other ∙ i.ahead place (omega (arith, p, n.behind));
  count = let more = length-append objects (o ∷ []) in omega (arith, i.count, n.behind, more);
}
  where
    is_in : stands (placed_object words o) ≡ true
    is_in = grind (arith, nat_tests, kept)

    formed : (b : Bool) → is_well_formed (placed_object words o) ≡ b → b ≡ true
    formed true e = refl
    formed false e =
        let faulty : is_faulty (Some (placed_object words o)) ≡ true = rw (is_in, e) refl in
        absurd (cc (sym faulty ∙ ap is_faulty n.is ∙ n.sound))

    left : filter stands (rest words at).objects ≡ placed_object words o ∷ filter stands (rest words (end_at o.place o.slots)).objects
    left = ap (λ (c : Cut). filter stands c.objects) (next_rest words at o n) ∙ rw is_in refl

pub all_cut : (words : List ℕ) (objects : List Placed) (starts : List ℕ) (at : ℕ) → IsCutTo words objects starts at → length words ≤ at
    → (bad_object (cut_of words) ≡ None) × (map (placed_object words) objects ≡ filter stands (cut_of words).objects)
unfolding bad_object
all_cut words objects starts at i h = (
  sym i.fault ∙ ap bad_object (rest_end words at h),
  sym (append-nil (map (placed_object words) objects)) ∙ ap (λ (c : Cut). map (placed_object words) objects ++ filter stands c.objects) (sym (rest_end words at h)) ∙ i.kept,
)
