-- Fields and stack values of a context, as its slots have them.
use Rattle.std.proofs.Common.{◌≡◌, ◌∙◌, ℕ, pos, zero, suc, ◌-◌, ◌<◌, ◌≤◌, ◌^◌, Bool, true, false, refl, sym, ap, subst, Option, Some, None, IsSome, IfSome, is_some, unwrap_or, option_map, option_and_then, List, [], ◌∷◌, length, take, drop, length-take, length-drop, get_or, arith}
use Rattle.std.specs.Prelude.{◌≢◌, ◌==◌, ◌||◌, nat_lt, negsuc, slice_get, slice_index}
use Rattle.std.proofs.lemmas.Bool.{eqb-true}
use Rattle.std.proofs.lemmas.Bool.Decides.{nat_tests}
use Rattle.std.proofs.lemmas.List.{get_or-drop, get_or-take}
use Rattle.std.proofs.lemmas.Option.{slice_get-get_or, slice_get-map}
use Rattle.cs_word.specs.declared.Oop.{Oop}
use Rattle.cs_word.specs.Word.{small_word, natural_of_word}
use Rattle.cs_heap.specs.Object.{Object, slot_count_of, slot_of}
use Rattle.cs_classes.specs.Meaning.{context_of, depth_in, ref_of}
use Rattle.cs_classes.specs.Sound as whole
use Rattle.cs_classes.specs.Sound.{is_reference}
use Rattle.cs_classes.proofs.Contexts.{depth_is}
use Rattle.cs_classes.proofs.Heaps.{birth_of-object_at, is_object-object_at}
use Rattle.cs_classes.proofs.Makings.{ref_of-nil}
use Rattle.cs_classes.proofs.Refs.{index_of-ref_of, is_reference-object, is_reference-small, ref_of-object, ref_of-small, small_natural}
use Rattle.cs_classes.proofs.Sounds.{sound_at}
use Rattle.cs_model.specs.Ref.{Ref, Small, Char, named_object, small_index}
use Rattle.cs_model.specs.Ref as ref
use Rattle.cs_model.specs.Obj.{Context, context_in}
use Rattle.cs_model.specs.State.{Kept}
use Rattle.cs_model.specs.Context.{context_get, pc_value}
use Rattle.cs_model.specs.Operation.{nil_of}
use Rattle.cs_model.specs.Read.{active_birth}
use Rattle.cs_model.specs.Return.{context_at as context_named_at, context_birth}
use Rattle.cs_acts.specs.Names.{IsNamed, Names, NamesOption, name_of}
use Rattle.cs_acts.specs.Ready.{IsSound}
use Rattle.cs_acts.specs.Targets.{field_of}
use Rattle.cs_plain.specs.declared.PlainWorld.{PlainWorld}
use Rattle.cs_plain.specs.View as view
use Rattle.cs_plain.specs.View.{plain_stored, plain_view}
use Rattle.cs_plain.proofs.Acts.{ContextAt, context_at, context_named}

-- ---- contexts by their words

-- a word that stands for a context names it
pub names_context : {w : PlainWorld} {a : Oop} {x : Object} → ContextAt w a x → Names (plain_stored w) a (ref.Obj x.birth)
names_context {w} {a} {x} at =
    let there = is_object-object_at w.heap.objects a.0 x at.there in
    record {
      sound = is_reference-object w.heap.objects a.0 there;
      is = ref_of-object w.heap.objects a.0 there ∙ ap (λ n. ref.Obj n) (birth_of-object_at w.heap.objects a.0 x at.there);
    }

pub names_act : (w : PlainWorld) (a : Oop) → IsSound (plain_stored w) (plain_view w) → IsSome (view.oop_birth w.heap.objects a) → IfSome (view.oop_birth w.heap.objects a) (λ birth. Names (plain_stored w) a (ref.Obj birth))
names_act w a sound some =
    let x = context_at w a sound some in
    subst (λ o. IfSome o (λ birth. Names (plain_stored w) a (ref.Obj birth))) (sym x.1.birth) (names_context x.1)

pub names_active : (w : PlainWorld) (a : Oop) → IsSound (plain_stored w) (plain_view w) → w.active ≡ Some a → IsSome (plain_view w).rest.active → Names (plain_stored w) a (ref.Obj (active_birth (plain_view w)))
names_active w a sound known some =
    let at = ap (view.plain_active w.heap.objects) known in
    let x = context_at w a sound (subst (λ (o : Option ℕ). IsSome o) at some) in
    subst (λ n. Names (plain_stored w) a (ref.Obj n)) (sym (ap (λ o. unwrap_or o (plain_view w).rest.nil) (at ∙ x.1.birth))) (names_context x.1)

has_birth : (k : Kept) (r : Ref) → is_some (context_named_at k r) ≡ true → is_some (context_birth k r) ≡ true
has_birth k (Small z) e = absurd (cc)
has_birth k (Char c) e = absurd (cc)
has_birth k (ref.Obj i) e = go (context_named_at k (ref.Obj i)) e
  where
    go : (o : Option Context) → is_some o ≡ true → is_some (option_and_then (λ (c : Context). Some i) o) ≡ true
    go None e = absurd (cc)
    go (Some c) e = refl

some_context : (k : Kept) (o : Option Context) (i : ℕ) → is_some (option_and_then (λ c. context_get k c i) o) ≡ true → is_some o ≡ true
some_context k None i e = e
some_context k (Some c) i e = refl

-- the context of which a field is asked
pub asked : (w : PlainWorld) (a : Oop) (i : ℕ) → IsSound (plain_stored w) (plain_view w) → IsNamed (plain_stored w) a → IsSome (field_of (plain_view w) (name_of (plain_stored w) a) i) → (x : Object) × ContextAt w a x
asked w a i sound named some =
    context_at w a sound (ap is_some (context_named w a sound named) ∙ has_birth (plain_view w) (name_of (plain_stored w) a) (some_context (plain_view w) (context_named_at (plain_view w) (name_of (plain_stored w) a)) i some))

-- ---- its slots

-- a reference that says a number is that SmallInteger
small_is : (r : Ref) (n : ℕ) → small_index r ≡ Some n → r ≡ Small (pos n)
small_is (Small (pos m)) n e = let is : m ≡ n = cc in ap (λ j. Small (pos j)) is
small_is (Small (negsuc m)) n e = absurd (cc)
small_is (Char c) n e = absurd (cc)
small_is (ref.Obj i) n e = absurd (cc)

beyond : (i n : ℕ) → n < i → (i == n) ≡ false
beyond i n h = grind (arith, nat_tests)

-- values of the stack come behind the fields
value_is : (k : Kept) (c : Context) (i : ℕ) → 6 ≤ i → context_get k c i ≡ slice_get c.stack (i - 6)
unfolding context_get
value_is k c i l =
    let a = beyond i 0 (omega (arith, l)) in
    let b = beyond i 1 (omega (arith, l)) in
    let d = beyond i 2 (omega (arith, l)) in
    let e = beyond i 3 (omega (arith, l)) in
    let f = beyond i 4 (omega (arith, l)) in
    let g = beyond i 5 (omega (arith, l)) in
    rw (a, b, d, e, f, g) refl

there_below : (xs : List Ref) (j : ℕ) → is_some (slice_get xs j) ≡ true → j < length xs
there_below [] j e = absurd (cc)
there_below (x ∷ xs) zero e = omega arith
there_below (x ∷ xs) (suc j) e = omega (arith, there_below xs j e)

module _ {w : PlainWorld} {a : Oop} {x : Object} (sound : IsSound (plain_stored w) (plain_view w)) (at : ContextAt w a x) where
  abbrev c : Context
  c = context_of (ref_of w.heap.objects) x.hash x.words

  pub field_is : (i : ℕ) → field_of (plain_view w) (name_of (plain_stored w) a) i ≡ context_get (plain_view w) c i
  field_is i =
      ap (λ r. option_and_then (λ d. context_get (plain_view w) d i) (context_named_at (plain_view w) r)) (names_context at).is
      ∙ ap (λ o. option_and_then (λ d. context_get (plain_view w) d i) (context_in o)) at.means

  deep : length c.stack ≡ depth_in x.words
  deep = depth_is (ref_of w.heap.objects) x.hash x.words at.whole.depth

  slots_few : length x.words ≤ 62
  slots_few = most (length x.words) ((sound_at w.heap.objects a.0 x sound.holds.whole.heap at.there).context at.context).slots
    where
      most : (n : ℕ) → (n == 22 || n == 62) ≡ true → n ≤ 62
      most n h = grind (arith, nat_tests)

  -- the slot is there
  pub asked_within : (i : ℕ) → IsSome (field_of (plain_view w) (name_of (plain_stored w) a) i) → i < slot_count_of w.heap.objects a.0
  asked_within i some = go (nat_lt i 6) refl
    where
      go : (b : Bool) → nat_lt i 6 ≡ b → i < slot_count_of w.heap.objects a.0
      go true e = let few : i < 6 = grind (arith, nat_tests, e) in omega (arith, few, at.count, at.whole.fields)
      go false e =
          let past : 6 ≤ i = grind (arith, nat_tests, e) in
          let below = there_below c.stack (i - 6) (sym (ap is_some (field_is i ∙ value_is (plain_view w) c i past)) ∙ some) in
          omega (arith, past, below, deep, at.whole.depth, at.whole.fields, at.count)

  pub depth_few : (n : ℕ) → n ≡ unwrap_or (natural_of_word (slot_of w.heap.objects a.0 2)) 0 → n < 2 ^ 30
  depth_few n e = omega (arith, e ∙ ap (λ v. unwrap_or (natural_of_word v) 0) (at.slot 2), at.whole.depth, slots_few)

  -- stackp, nil counting as 0
  pub depth_names : (v : Oop) (n : ℕ) → n ≡ unwrap_or (natural_of_word (slot_of w.heap.objects a.0 2)) 0 → v.0 ≡ small_word (pos n) → NamesOption (plain_stored w) (Some v) (field_of (plain_view w) (name_of (plain_stored w) a) 2)
  unfolding context_get
  depth_names v n e word =
      let small = small_natural n (depth_few n e) in
      let is : n ≡ length c.stack = e ∙ ap (λ u. unwrap_or (natural_of_word u) 0) (at.slot 2) ∙ sym deep in
      record {
        sound = ap (is_reference w.heap.objects) word ∙ is_reference-small w.heap.objects (pos n) small;
        is = ap (λ u. Some (ref_of w.heap.objects u)) word ∙ ap (λ r. Some r) (ref_of-small w.heap.objects (pos n) small) ∙ ap (λ m. Some (Small (pos m))) is ∙ sym (field_is 2);
      }

  -- nil, or the number of a live context
  pc_names : (u : ℕ) → is_reference w.heap.objects u ≡ true → (u == whole.nil_word w.heap.objects || is_some (natural_of_word u)) ≡ true → ref_of w.heap.objects u ≡ pc_value (nil_of (plain_view w)) (natural_of_word u)
  pc_names u named either = go (natural_of_word u) refl
    where
      go : (o : Option ℕ) → natural_of_word u ≡ o → ref_of w.heap.objects u ≡ pc_value (nil_of (plain_view w)) o
      go (Some n) e = small_is (ref_of w.heap.objects u) n (index_of-ref_of w.heap.objects u named ∙ e)
      go None e =
          let nil : u ≡ whole.nil_word w.heap.objects = eqb-true u (whole.nil_word w.heap.objects) (left (u == whole.nil_word w.heap.objects) (ap (λ o. u == whole.nil_word w.heap.objects || is_some o) (sym e) ∙ either)) in
          ap (ref_of w.heap.objects) (nil ∙ sound.holds.whole.nil) ∙ ref_of-nil w.heap.objects w.classes w.roots sound.holds.whole
        where
          left : (b : Bool) → (b || false) ≡ true → b ≡ true
          left true h = refl
          left false h = h

  value_says : (i : ℕ) → 6 ≤ i → IsSome (field_of (plain_view w) (name_of (plain_stored w) a) i) → Some (ref_of w.heap.objects (slice_index x.words i)) ≡ context_get (plain_view w) c i
  unfolding context_of
  value_says i past some =
      let words : List ℕ = take (depth_in x.words) (drop 6 x.words) in
      let below : i - 6 < length c.stack = there_below c.stack (i - 6) (sym (ap is_some (field_is i ∙ value_is (plain_view w) c i past)) ∙ some) in
      let few : i - 6 < length words = omega (arith, below, deep, at.whole.depth, length-take (depth_in x.words) (drop 6 x.words), length-drop 6 x.words) in
      let got : slice_get words (i - 6) ≡ Some (get_or words (i - 6) 0) = slice_get-get_or words (i - 6) 0 few in
      let value : get_or words (i - 6) 0 ≡ slice_index x.words i =
      get_or-take (depth_in x.words) (drop 6 x.words) (i - 6) 0 (omega (arith, below, deep)) ∙ get_or-drop 6 x.words (i - 6) 0 ∙ ap (slice_index x.words) (omega (arith, past)) in
      sym (value_is (plain_view w) c i past ∙ slice_get-map (ref_of w.heap.objects) words (i - 6) ∙ ap (option_map (ref_of w.heap.objects)) (got ∙ ap (λ n. Some n) value))

  -- what a slot refers to, but stackp
  slot_says : (i : ℕ) → i ≢ 2 → IsSome (field_of (plain_view w) (name_of (plain_stored w) a) i) → Some (ref_of w.heap.objects (slice_index x.words i)) ≡ context_get (plain_view w) c i
  unfolding context_of context_get
  slot_says zero other some = refl
  slot_says (suc zero) other some =
      ap (λ r. Some r) (pc_names (slice_index x.words 1) (at.named 1 (omega (arith, at.whole.fields)))
      ((sound_at w.heap.objects a.0 x sound.holds.whole.heap at.there).context at.context).pc)
  slot_says (suc (suc zero)) other some = absurd (other refl)
  slot_says (suc (suc (suc zero))) other some = refl
  slot_says (suc (suc (suc (suc zero)))) other some = refl
  slot_says (suc (suc (suc (suc (suc zero))))) other some = refl
  slot_says (suc (suc (suc (suc (suc (suc j)))))) other some = value_says (suc (suc (suc (suc (suc (suc j)))))) (omega arith) some

  pub field_names : (v : Oop) (i : ℕ) → i ≢ 2 → v.0 ≡ slot_of w.heap.objects a.0 i → IsSome (field_of (plain_view w) (name_of (plain_stored w) a) i)
      → NamesOption (plain_stored w) (Some v) (field_of (plain_view w) (name_of (plain_stored w) a) i)
  field_names v i other read some =
      let word : v.0 ≡ slice_index x.words i = read ∙ at.slot i in
      record {
        sound = ap (is_reference w.heap.objects) word ∙ at.named i (omega (arith, asked_within i some, at.count));
        is = ap (λ u. Some (ref_of w.heap.objects u)) word ∙ slot_says i other some ∙ sym (field_is i);
      }
