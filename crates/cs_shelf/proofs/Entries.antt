-- The entries of a shelf in memory: one is given a content.
use Rattle.std.proofs.Common.{◌≡◌, ◌≢◌, ℕ, ◌<◌, ◌≤◌, IsSome, nat_lt, subst, List, [], ◌∷◌, Option, Some, None, Bool, true, false, cond, find, length, map, zero, suc, get_or, slice_set, ap, sym, ◌∙◌, refl, arith, slice_get, option_and_then, option_map}
use Rattle.std.specs.Prelude.{IfSome}
use Rattle.std.specs.List.{position_or_len, All}
use Rattle.std.proofs.lemmas.List.Sums.{passes_at_first}
use borrow.Author.Tests.{ltb-true}
use Rattle.std.specs.Str.{bytes_eq}
use Rattle.std.proofs.lemmas.Slice.Eq.{bytes_eq-Decides}
use Rattle.std.proofs.lemmas.Bool.{false_from_ne_true}
use Rattle.std.proofs.lemmas.List.{length-map}
use Rattle.std.proofs.lemmas.Option.{cond_some, get_or_from_slice_get, same_Some, slice_get-get_or, slice_get_within, slice_get-map}
use Rattle.cs_shelf.specs.Memory.{AreKept, EntryView, NamesDiffer, content_of, names_of, new_entry, entry_place, put_at}

-- a new shelf has the names that it was given
pub names_of-new : (room : ℕ) (names : List (List ℕ)) → names_of (map (new_entry room) names) ≡ names
names_of-new room [] = refl
names_of-new room (x ∷ xs) = ap (λ (ys : List (List ℕ)). x ∷ ys) (names_of-new room xs)

-- names stay
pub names_of-put_at : (es : List EntryView) (k : ℕ) (bytes : List ℕ) → names_of (put_at es k bytes) ≡ names_of es
names_of-put_at [] k bytes = refl
names_of-put_at (e ∷ es) zero bytes = refl
names_of-put_at (e ∷ es) (suc k) bytes = ap (λ (ys : List (List ℕ)). e.name ∷ ys) (names_of-put_at es k bytes)

-- the code's write at an index
set-put_at : (es : List EntryView) (k : ℕ) (bytes : List ℕ) (d e : EntryView) → k < length es
    → e ≡ record (get_or es k d) { content = Some bytes } → slice_set es k e ≡ put_at es k bytes
set-put_at [] k bytes d e h is = absurd (omega arith)
set-put_at (x ∷ xs) zero bytes d e h is = ap (λ (y : EntryView). y ∷ xs) is
set-put_at (x ∷ xs) (suc k) bytes d e h is = ap (λ (ys : List EntryView). x ∷ ys) (set-put_at xs k bytes d e (omega arith) is)

-- the test of names, where they are one and where they differ
same_name : (a b : List ℕ) → a ≡ b → bytes_eq a b ≡ true
same_name a b h = (bytes_eq-Decides a b).1 h

other_name : (a b : List ℕ) → (a ≡ b → ⊥) → bytes_eq a b ≡ false
other_name a b h = false_from_ne_true (bytes_eq a b) (λ t. h ((bytes_eq-Decides a b).0 t))

-- the name that was given a content holds it
content_of-put_at : (es : List EntryView) (k : ℕ) (bytes : List ℕ) (e : EntryView) → NamesDiffer (names_of es)
    → slice_get es k ≡ Some e → content_of (put_at es k bytes) e.name ≡ Some bytes
content_of-put_at [] k bytes e differ is = cc
content_of-put_at (x ∷ xs) zero bytes e differ is =
    let test : bytes_eq x.name e.name ≡ true = same_name x.name e.name (cc) in rw test
content_of-put_at (x ∷ xs) (suc k) bytes e differ is =
    let named : get_or (names_of xs) k x.name ≡ e.name =
    get_or_from_slice_get (names_of xs) k e.name x.name (slice_get-map (λ (y : EntryView). y.name) xs k ∙ ap (option_map (λ (y : EntryView). y.name)) is) in
    let within : k < length xs = slice_get_within xs k e is in
    let test : bytes_eq x.name e.name ≡ false =
    other_name x.name e.name (λ h. differ 0 (suc k) x.name (omega arith) (simp length-map (omega arith)) (h ∙ sym named)) in
    rw test (content_of-put_at xs k bytes e (λ i j d h l. differ (suc i) (suc j) d (omega arith) (omega arith)) is)

-- and each other name what it held
content_of-put_at_other : (es : List EntryView) (k : ℕ) (bytes : List ℕ) (e : EntryView) → slice_get es k ≡ Some e
    → (other : List ℕ) → (other ≡ e.name → ⊥) → content_of (put_at es k bytes) other ≡ content_of es other
content_of-put_at_other [] k bytes e is other differs = refl
content_of-put_at_other (x ∷ xs) zero bytes e is other differs =
    let test : bytes_eq x.name other ≡ false = other_name x.name other (λ h. differs (cc)) in rw test
content_of-put_at_other (x ∷ xs) (suc k) bytes e is other differs =
    let content : Option EntryView → Option (List ℕ) = λ o. option_and_then (λ (y : EntryView). y.content) o in
    let found : Bool → Type 0 =
    λ b. content (cond b (Some x) (find (λ (y : EntryView). bytes_eq y.name other) (put_at xs k bytes)))
    ≡ content (cond b (Some x) (find (λ (y : EntryView). bytes_eq y.name other) xs)) in
    elim (bytes_eq x.name other) as found [ true ↦ refl | false ↦ content_of-put_at_other xs k bytes e is other differs ]

-- a fact of what an option has
if_some : {X : Type 0} (o : Option X) (P : X → Type 0) → ((x : X) → o ≡ Some x → P x) → IfSome o P
if_some None P h = tt
if_some (Some x) P h = h x refl

-- both as the clauses of the code say them, of the entries that the write left
pub holds_after : (was is : List EntryView) (k : ℕ) (bytes : List ℕ) → is ≡ put_at was k bytes → NamesDiffer (names_of was)
    → IfSome (slice_get was k) (λ e. content_of is e.name ≡ Some bytes)
holds_after was is k bytes put differ =
    let Holds : EntryView → Type 0 = λ e. content_of is e.name ≡ Some bytes in
    if_some (slice_get was k) Holds (λ e at. rw put (content_of-put_at was k bytes e differ at))

pub others_after : (was is : List EntryView) (k : ℕ) (bytes : List ℕ) → is ≡ put_at was k bytes
    → IfSome (slice_get was k) (λ e. (other : List ℕ) → other ≢ e.name → content_of is other ≡ content_of was other)
others_after was is k bytes put =
    let Others : EntryView → Type 0 = λ e. (other : List ℕ) → other ≢ e.name → content_of is other ≡ content_of was other in
    if_some (slice_get was k) Others (λ e at other differs. rw put (content_of-put_at_other was k bytes e at other differs))

-- new ones are names that differ and are short enough, with that room
new_rooms : (room : ℕ) (names : List (List ℕ)) → All (λ held. room ≤ held) (map (λ e. e.room) (map (new_entry room) names))
new_rooms room [] k d h = absurd (omega arith)
new_rooms room (x ∷ xs) zero d h = omega arith
new_rooms room (x ∷ xs) (suc k) d h = new_rooms room xs k d (omega arith)

pub kept_new : (room : ℕ) (names : List (List ℕ)) (es : List EntryView) → es ≡ map (new_entry room) names
    → NamesDiffer names → All (λ name. length name ≤ 4096) names → AreKept room es
kept_new room names es is differ short =
    let Short : List (List ℕ) → Type 0 = λ ns. All (λ name. length name ≤ 4096) ns in
    let Kept : List EntryView → Type 0 = AreKept room in
    subst Kept (sym is) (record {
      differ = subst NamesDiffer (sym (names_of-new room names)) differ;
      short = subst Short (sym (names_of-new room names)) short;
      roomy = new_rooms room names;
    })

-- what stays of entries stays when one is given a content
rooms-put_at : (es : List EntryView) (k : ℕ) (bytes : List ℕ) → map (λ e. e.room) (put_at es k bytes) ≡ map (λ e. e.room) es
rooms-put_at [] k bytes = refl
rooms-put_at (e ∷ es) zero bytes = refl
rooms-put_at (e ∷ es) (suc k) bytes = ap (λ (ys : List ℕ). e.room ∷ ys) (rooms-put_at es k bytes)

pub kept_after : (room : ℕ) (was is : List EntryView) (k : ℕ) (bytes : List ℕ) → is ≡ put_at was k bytes
    → AreKept room was → AreKept room is
kept_after room was is k bytes put kept =
    let names = sym (ap names_of put ∙ names_of-put_at was k bytes) in
    let rooms = sym (ap (λ (es : List EntryView). map (λ (e : EntryView). e.room) es) put ∙ rooms-put_at was k bytes) in
    let Short : List (List ℕ) → Type 0 = λ ns. All (λ name. length name ≤ 4096) ns in
    let Roomy : List ℕ → Type 0 = λ ns. All (λ held. room ≤ held) ns in
    record {
      differ = subst NamesDiffer names kept.differ;
      short = subst Short names kept.short;
      roomy = subst Roomy rooms kept.roomy;
    }

-- a place that has a name is one of the list's, with room for what is taken
pub named_within : (es : List EntryView) (k : ℕ) → IsSome (slice_get (names_of es) k) → k < length es
named_within [] k h = cc
named_within (e ∷ es) zero h = omega arith
named_within (e ∷ es) (suc k) h = let t : k < length es = named_within es k h in omega arith

pub roomy_at : (room : ℕ) (es : List EntryView) (k : ℕ) → AreKept room es → IfSome (slice_get es k) (λ e. room ≤ e.room)
roomy_at room es k kept =
    let Roomy : EntryView → Type 0 = λ e. room ≤ e.room in
    if_some (slice_get es k) Roomy (λ e is.
    let rooms : List ℕ = map (λ (x : EntryView). x.room) es in
    let at : slice_get rooms k ≡ Some e.room = slice_get-map (λ (x : EntryView). x.room) es k ∙ ap (option_map (λ (x : EntryView). x.room)) is in
    let held : get_or rooms k 0 ≡ e.room = get_or_from_slice_get rooms k e.room 0 at in
    let big : room ≤ get_or rooms k 0 = kept.roomy k 0 (slice_get_within rooms k e.room at) in
    omega arith)

-- the name at the place of a name
pub named_place : (es : List EntryView) (name : List ℕ) (k : ℕ) → entry_place es name ≡ Some k → slice_get (names_of es) k ≡ Some name
named_place es name k is =
    let has : EntryView → Bool = λ e. bytes_eq e.name name in
    let first = position_or_len has es in
    let d : EntryView = new_entry 0 name in
    let split = cond_some (nat_lt first (length es)) first k is in
    let within : first < length es = ltb-true first (length es) split.0 in
    let same : (get_or es first d).name ≡ name = (bytes_eq-Decides (get_or es first d).name name).0 (passes_at_first has es d within) in
    let At : ℕ → Type 0 = λ n. slice_get (names_of es) n ≡ Some name in
    subst At split.1 (slice_get-map (λ (e : EntryView). e.name) es first
    ∙ ap (option_map (λ (e : EntryView). e.name)) (slice_get-get_or es first d within) ∙ ap Some same)

-- what finishing leaves, as its clauses say it
pub named_holds : (was is : List EntryView) (k : ℕ) (bytes : List ℕ) → is ≡ put_at was k bytes → NamesDiffer (names_of was)
    → IfSome (slice_get (names_of was) k) (λ name. content_of is name ≡ Some bytes)
named_holds was is k bytes put differ =
    let Holds : List ℕ → Type 0 = λ name. content_of is name ≡ Some bytes in
    if_some (slice_get (names_of was) k) Holds (λ name at.
    let e = get_or was k (new_entry 0 name) in
    let there : slice_get was k ≡ Some e = slice_get-get_or was k (new_entry 0 name) (named_within was k (rw at refl)) in
    let same : e.name ≡ name = same_Some e.name name (sym (slice_get-map (λ (x : EntryView). x.name) was k
    ∙ ap (option_map (λ (x : EntryView). x.name)) there) ∙ at) in
    subst Holds same (rw put (content_of-put_at was k bytes e differ there)))

pub named_others : (was is : List EntryView) (k : ℕ) (bytes : List ℕ) → is ≡ put_at was k bytes → k < length was
    → (other : List ℕ) → slice_get (names_of was) k ≢ Some other → content_of is other ≡ content_of was other
named_others was is k bytes put within other differs =
    let e = get_or was k (new_entry 0 other) in
    let there : slice_get was k ≡ Some e = slice_get-get_or was k (new_entry 0 other) within in
    let named : slice_get (names_of was) k ≡ Some e.name = slice_get-map (λ (x : EntryView). x.name) was k
    ∙ ap (option_map (λ (x : EntryView). x.name)) there in
    rw put (content_of-put_at_other was k bytes e there other (λ same. differs (named ∙ ap Some (sym same))))

-- the write of the code, from what was read at the index
pub written : (es : List EntryView) (k : ℕ) (bytes : List ℕ) (was is : EntryView) → k < length es
    → was ≡ get_or es k was → is ≡ record was { content = Some bytes } → slice_set es k is ≡ put_at es k bytes
written es k bytes was is within read put =
    let holding : EntryView → EntryView = λ e. record e { content = Some bytes } in
    set-put_at es k bytes was is within (put ∙ ap holding read)
