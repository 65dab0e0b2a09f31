-- The contexts and the roots of a sound file have no fault.
use Rattle.std.proofs.Common.{◌≡◌, ◌≢◌, ℕ, ◌-◌, ◌==◌, ◌&&◌, ◌||◌, Bool, true, false, cond, not, List, length, Option, Some, None, refl, ap, ◌∙◌, arith, slice_index, option_map}
use Rattle.std.specs.Option.{option_map_or, option_and_then}
use Rattle.std.specs.List.{find}
use Rattle.std.proofs.lemmas.Bool.Decides.{nat_tests}
use Rattle.cs_model.specs.Obj.{context_class, context_fields}
use Rattle.cs_model.specs.ImageFile.{FileObject, is_nil_word, named, names}
use Rattle.cs_model.specs.ImageFault.{is_file_context, is_sound_context, is_pc_of, is_stackp, is_file_method, bad_context, fields_of, fields_in, special_in, is_live_context, is_process_word, is_bad_roots}
use Rattle.cs_model.specs.SavedFile.{SavedObject, SavedFile, FitsFile, saved_base, placed_at}
use Rattle.cs_model.specs.SoundFile.{IsSoundFile, IsSavedContext, IsActive, IsFound, visible_saved}
use Rattle.cs_model.proofs.SavedPlacing.{placed_file, lies, is_named, nil_base}
use Rattle.cs_model.proofs.SavedSeen.{all_each, find_none, Anywhere, all_visible, visible_there}
use Rattle.cs_model.proofs.SavedTables.{nil_or}

-- ---- contexts

unless_nil : (f : SavedFile) → FitsFile f → (word : ℕ) (b : Bool) → (word ≢ saved_base → b ≡ true) → (is_nil_word (placed_file f) word || b) ≡ true
unless_nil f fits word b h = ap (λ n. (word == n) || b) (nil_base f fits) ∙ go (word == saved_base) refl
  where
    go : (c : Bool) → (word == saved_base) ≡ c → (c || b) ≡ true
    go true e = refl
    go false e = h (grind (arith, nat_tests, e))

seven : (a b c d e g h : Bool) → a ≡ true → b ≡ true → c ≡ true → d ≡ true → e ≡ true → g ≡ true → h ≡ true → (a && b && c && d && e && g && h) ≡ true
seven a b c d e g h ha hb hc hd he hg hh = rw (ha, hb, hc, hd, he, hg, hh) refl

context_right : (f : SavedFile) → FitsFile f → (o : SavedObject) → IsSavedContext f o → (first : ℕ) → is_sound_context (placed_file f) (placed_at first o) ≡ true
context_right f fits o c first =
    seven _ _ _ _ _ _ _
    (ap (λ n. n == 3) c.format)
    c.slots
    (nil_or f fits is_file_context (slice_index o.words 0) c.sender)
    (unless_nil f fits (slice_index o.words 1) (names (placed_file f) (is_pc_of (slice_index o.words 1)) (slice_index o.words 3))
    (λ h. is_named f fits (is_pc_of (slice_index o.words 1)) (slice_index o.words 3) (c.pc h)))
    (unless_nil f fits (slice_index o.words 2) (is_stackp (length o.words - context_fields) (slice_index o.words 2)) c.stackp)
    (nil_or f fits is_file_method (slice_index o.words 3) c.method)
    (nil_or f fits (λ x. x.class == 37) (slice_index o.words 4) c.closure)

sound_or_other : (f : SavedFile) → FitsFile f → (o : SavedObject) → (o.class ≡ context_class → IsSavedContext f o) → (first : ℕ)
    → (is_file_context (placed_at first o) && not (is_sound_context (placed_file f) (placed_at first o))) ≡ false
sound_or_other f fits o h first = go (o.class == context_class) refl
  where
    go : (b : Bool) → (o.class == context_class) ≡ b → (b && not (is_sound_context (placed_file f) (placed_at first o))) ≡ false
    go false e = refl
    go true e = ap not (context_right f fits o (h (grind (arith, nat_tests, e))) first)

pub contexts_right : (f : SavedFile) (limit : ℕ) → IsSoundFile f limit → bad_context (placed_file f) ≡ None
unfolding bad_context
contexts_right f limit s =
    let p = λ (o : FileObject). is_file_context o && not (is_sound_context (placed_file f) o) in
    let P : FileObject → Type 0 = λ o. p o ≡ false in
    ap (option_map (λ (o : FileObject). o.place))
    (ap (find p) (visible_there f limit s)
    ∙ find_none p (visible_saved f) (all_visible P f
    (all_each (λ (o : SavedObject). o.class ≡ context_class → IsSavedContext f o) (Anywhere P) (sound_or_other f s.fits) f.objects s.contexts)))

-- ---- roots

found : (f : SavedFile) → FitsFile f → (P : FileObject → Type 0) (word : ℕ) → IsFound f P word
    → (first : ℕ) × (o : SavedObject) × (named (placed_file f) word ≡ Some (placed_at first o)) × P (placed_at first o)
found f fits P word n =
    let l = lies f fits n.number n.object n.there in
    (l.first, n.object, ap (named (placed_file f)) n.address ∙ l.named, n.is l.first)

fields_there : (f : SavedFile) → FitsFile f → (n word : ℕ) (words : List ℕ) → IsFound f (λ o. fields_of n o ≡ Some words) word
    → fields_in (placed_file f) n word ≡ Some words
fields_there f fits n word words h =
    let g = found f fits (λ o. fields_of n o ≡ Some words) word h in
    ap (option_and_then (fields_of n)) g.2 ∙ g.3

special_there : (f : SavedFile) → FitsFile f → (word : ℕ) (words : List ℕ) → IsFound f (λ o. (o.format ≡ 2) × (fields_of 51 o ≡ Some words)) word
    → special_in (placed_file f) word ≡ Some words
special_there f fits word words h =
    let g = found f fits (λ o. (o.format ≡ 2) × (fields_of 51 o ≡ Some words)) word h in
    ap (option_and_then (λ (o : FileObject). cond (o.format == 2) (fields_of 51 o) None)) g.2
    ∙ ap (λ n. cond (n == 2) (fields_of 51 (placed_at g.0 g.1)) None) g.3.0 ∙ g.3.1

active_right : (f : SavedFile) → FitsFile f → (word : ℕ) → (word ≢ saved_base → IsActive f word) → is_process_word (placed_file f) word ≡ true
active_right f fits word h =
    unless_nil f fits word (option_map_or (λ process. names (placed_file f) is_live_context (slice_index process 1)) (fields_in (placed_file f) 4 word) false)
    (λ other. let a = h other in
    ap (λ (r : Option (List ℕ)). option_map_or (λ process. names (placed_file f) is_live_context (slice_index process 1)) r false) (fields_there f fits 4 word a.fields a.process)
    ∙ is_named f fits is_live_context (slice_index a.fields 1) a.context)

pub roots_right : (f : SavedFile) (limit : ℕ) → IsSoundFile f limit → is_bad_roots (placed_file f) f.special ≡ false
unfolding is_bad_roots
roots_right f limit s =
    let r = s.roots in
    let F = placed_file f in
    rw (
      special_there f s.fits f.special r.special r.array,
      fields_there f s.fits 2 (slice_index r.special 3) r.link r.linked,
      fields_there f s.fits 2 (slice_index r.link 1) r.scheduler r.scheduled,
    )
    (ap not (active_right f s.fits (slice_index r.scheduler 1) r.active))
