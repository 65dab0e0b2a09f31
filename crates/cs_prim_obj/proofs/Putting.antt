-- The rows that write, and what they come to.
use Rattle.std.proofs.Common.{◌≡◌, ◌⊎◌, inl, inr, ◌∙◌, ℕ, ◌+◌, ◌<◌, ◌≤◌, Bool, true, false, refl, sym, ap, ap₂, arith, Option, Some, None, List, ◌∷◌, length, is_some, pos}
use Rattle.std.specs.Prelude.{◌&&◌, if◌then◌else◌, nat_le, nat_lt, option_and_then, option_map, slice_get}
use Rattle.std.proofs.lemmas.Bool.{false≢true}
use Rattle.std.proofs.lemmas.Bool.Decides.{nat_tests}
use Rattle.std.proofs.lemmas.Option.{slice_get-get_or, slice_get_past}
use Rattle.cs_word.specs.declared.Oop.{Oop}
use Rattle.cs_model.specs.Context.{is_context_ref}
use Rattle.cs_model.specs.Element.{element_place}
use Rattle.cs_model.specs.End.{Out, given}
use Rattle.cs_model.specs.Number.{boolean}
use Rattle.cs_model.specs.Obj.{Obj, Ptr, Raw, Method, Ctx, context_in, slots_in}
use Rattle.cs_model.specs.Operation.{drop_of, push_of, set_fixed_of, store_byte_of, store_of}
use Rattle.cs_model.specs.PrimAnswer.{answer, argument, fail, receiver}
use Rattle.cs_model.specs.PrimObject.{answer_in, boolean_in, byte_code, can_be_fixed, char_at_put_prim, is_bytes, method_slot, object_at_put_prim, put_literal, set_read_only_prim, slot_at_put_prim, slot_index, slot_put, unless_read_only}
use Rattle.cs_model.specs.Ref.{Ref, Char, Small}
use Rattle.cs_model.specs.State.{Kept, is_read_only, object_of}
use Rattle.cs_acts.specs.declared.prim.PrimEnd.TheVariants as prim
use Rattle.cs_acts.specs.declared.store.StoreTarget.{StoreTarget}
use Rattle.cs_acts.specs.declared.store.StoreTarget.TheVariants.{Missing, ReadOnly, Writable}
use Rattle.cs_acts.specs.Layout.{Layout}
use Rattle.cs_acts.specs.Led.{Leads}
use Rattle.cs_acts.specs.Names.{Names, Store, name_of}
use Rattle.cs_acts.specs.Ready.{is_storable}
use Rattle.cs_acts.specs.Storing.{slot_at, target_of}
use Rattle.cs_acts.proofs.Held.{named_held}
use Rattle.cs_acts.proofs.Storing.{slot_missing, slot_read_only, slot_writable}
use Rattle.cs_prim_ctx.specs.Answered.{PerformsInPlace}
use Rattle.cs_prim_obj.specs.Contents.{can_be_fixed_by, contents_of}
use Rattle.cs_prim_obj.proofs.Outcomes.{as_row, written}

-- a value that was named before is answered behind a write
pub wrote : (a b c : Store) (l m n : Option Layout) (k v w t : Kept) (args : ℕ) (value : Oop) (y : Ref) (o : Out) → answer t args y ≡ o → Leads a b l m v t 0 → Names a value y
    → Leads b c m n w (push_of (drop_of v (args + 1)) (name_of b value)) 0 → PerformsInPlace a c l n k w prim.Answer o
wrote a b c l m n k v w t args value y o row first names led =
    let still = first.names value names.sound in
    as_row (ap (answer t args) (still.is ∙ names.is) ∙ row) (written a b c l m n k v w t args (name_of b value) first led (named_held b v value first.ready.sound.holds still.sound))

-- ---- 164

abbrev pub fixing : Kept → Ref → Bool → Option Bool → Out
fixing k x b o = if b then given o (fail k) (λ on. answer (set_fixed_of k x on) 1 (boolean k (is_read_only k x))) else fail k

pub fixing-row : (k : Kept) (x y : Ref) (b : Bool) (o : Option Bool) → x ≡ receiver k 1 → y ≡ argument k 1 0 → b ≡ can_be_fixed (object_of k x) → o ≡ boolean_in k y → fixing k x b o ≡ set_read_only_prim k 1
unfolding set_read_only_prim
fixing-row k x y b o is index can truth =
    ap₂ (fixing k x) can truth ∙ ap₂ (λ r a. fixing k r (can_be_fixed (object_of k r)) (boolean_in k a)) is index

pub fixable : (o : Option Obj) → can_be_fixed_by (contents_of o) ≡ can_be_fixed o
fixable None = refl
fixable (Some (Ptr head slots)) = refl
fixable (Some (Raw head bytes)) = refl
fixable (Some (Method head header literals bytecodes)) = refl
fixable (Some (Ctx c)) = refl

-- ---- what all have that put a value

pub put_fixed : (k : Kept) (x v : Ref) (e : Option Kept) → is_read_only k x ≡ true → unless_read_only k x (answer_in e k 2 v) ≡ fail k
put_fixed k x v e h = ap (λ (b : Bool). if b then fail k else answer_in e k 2 v) h

pub put_none : (k : Kept) (x v : Ref) (e : Option Kept) → e ≡ None → unless_read_only k x (answer_in e k 2 v) ≡ fail k
put_none k x v e h = ap (λ u. unless_read_only k x (answer_in u k 2 v)) h ∙ go (is_read_only k x)
  where
    go : (b : Bool) → (if b then fail k else fail k) ≡ fail k
    go true = refl
    go false = refl

pub put_some : (k t : Kept) (x v : Ref) (e : Option Kept) → is_read_only k x ≡ false → e ≡ Some t → unless_read_only k x (answer_in e k 2 v) ≡ answer t 2 v
put_some k t x v e h is = ap (λ (b : Bool). if b then fail k else answer_in e k 2 v) h ∙ ap (λ u. answer_in u k 2 v) is

-- ---- 69

abbrev pub literal_put : Kept → Ref → Option ℕ → Ref → Option Kept
literal_put k x o v = option_and_then (λ i. put_literal k x i v) o

pub literal_put-row : (k : Kept) (x y v : Ref) (o : Option ℕ) → x ≡ receiver k 2 → y ≡ argument k 2 0 → o ≡ slot_index y → v ≡ argument k 2 1 → unless_read_only k x (answer_in (literal_put k x o v) k 2 v) ≡ object_at_put_prim k 2
unfolding object_at_put_prim
literal_put-row k x y v o is index at value =
    ap₂ (λ p u. unless_read_only k x (answer_in (literal_put k x p u) k 2 u)) (at ∙ ap slot_index index) value
    ∙ ap (λ r. unless_read_only k r (answer_in (literal_put k r (slot_index (argument k 2 0)) (argument k 2 1)) k 2 (argument k 2 1))) is

pub literal_kept : (k : Kept) (x v : Ref) (i : ℕ) (b : Bool) → (nat_lt 0 i && is_some (method_slot (object_of k x) i)) ≡ b → literal_put k x (Some i) v ≡ (if b then Some (store_of k x i v) else None)
literal_kept k x v i b h = ap (λ (c : Bool). if c then Some (store_of k x i v) else None) h

some_below : (xs : List Ref) (i : ℕ) → is_some (slice_get xs i) ≡ true → i < length xs
some_below xs i h = go (nat_lt i (length xs)) refl
  where
    past : length xs ≤ i → slice_get xs i ≡ None
    past l = slice_get_past xs i l

    go : (b : Bool) → nat_lt i (length xs) ≡ b → i < length xs
    go true e = grind (arith, nat_tests)
    go false e = absurd (false≢true (sym (ap is_some (past (grind (arith, nat_tests)))) ∙ h))

both : (a b : Bool) → (a && b) ≡ true → (a ≡ true) × (b ≡ true)
both true true h = (refl, refl)
both true false h = absurd (cc)
both false b h = absurd (cc)

pub literal_storable : (o : Option Obj) (i : ℕ) → (nat_lt 0 i && is_some (method_slot o i)) ≡ true → is_storable o i ≡ true
literal_storable None i h = absurd (let p = both (nat_lt 0 i) false h in cc)
literal_storable (Some (Ptr head slots)) i h = absurd (let p = both (nat_lt 0 i) false h in cc)
literal_storable (Some (Raw head bytes)) i h = absurd (let p = both (nat_lt 0 i) false h in cc)
literal_storable (Some (Method head header literals bytecodes)) i h =
    let p = both (nat_lt 0 i) (is_some (method_slot (Some (Method head header literals bytecodes)) i)) h in
    let l = some_below (Small (pos header) ∷ literals) i p.1 in
    let q : nat_le i (length literals) ≡ true = grind (arith, nat_tests, l) in
    ap₂ (λ (a b : Bool). a && b) p.0 q
literal_storable (Some (Ctx c)) i h = absurd (let p = both (nat_lt 0 i) false h in cc)

-- ---- 74

abbrev pub pointer_put : Kept → Ref → Option ℕ → Ref → Option Kept
pointer_put k x o v = option_and_then (λ i. slot_put k x i v (object_of k x)) o

pub pointer_put-row : (k : Kept) (x y v : Ref) (o : Option ℕ) → x ≡ receiver k 2 → y ≡ argument k 2 0 → o ≡ slot_index y → v ≡ argument k 2 1 → unless_read_only k x (answer_in (pointer_put k x o v) k 2 v) ≡ slot_at_put_prim k 2
unfolding slot_at_put_prim
pointer_put-row k x y v o is index at value =
    ap₂ (λ p u. unless_read_only k x (answer_in (pointer_put k x p u) k 2 u)) (at ∙ ap slot_index index) value
    ∙ ap (λ r. unless_read_only k r (answer_in (pointer_put k r (slot_index (argument k 2 0)) (argument k 2 1)) k 2 (argument k 2 1))) is

below : (xs : List Ref) (i : ℕ) (y : Ref) → slice_get xs i ≡ Some y → nat_lt i (length xs) ≡ true
below xs i y e = let l = some_below xs i (ap is_some e) in grind (arith, nat_tests, l)

beyond : (xs : List Ref) (i : ℕ) → slice_get xs i ≡ None → nat_lt i (length xs) ≡ false
beyond xs i e = go (nat_lt i (length xs)) refl
  where
    go : (b : Bool) → nat_lt i (length xs) ≡ b → b ≡ false
    go false h = refl
    go true h = absurd (false≢true (sym (ap is_some e) ∙ ap is_some (slice_get-get_or xs i (Char 0) (grind (arith, nat_tests)))))

pub pointer_kept : (k : Kept) (x v : Ref) (i : ℕ) → target_of k x i ≡ Writable → (is_read_only k x ≡ false) × ((pointer_put k x (Some i) v ≡ Some (store_of k x i v)) × (is_storable (object_of k x) i ≡ true))
pointer_kept k x v i h =
    let w = slot_writable (slot_at k x i) (is_read_only k x) h in
    (w.1.1, go (object_of k x) w.0 w.1.0)
  where
    go : (o : Option Obj) (y : Ref) → option_and_then (λ slots. slice_get slots i) (slots_in o) ≡ Some y → (slot_put k x i v o ≡ Some (store_of k x i v)) × (is_storable o i ≡ true)
    go None y e = absurd (cc)
    go (Some (Ptr head slots)) y e = let b = below slots i y e in (ap (λ (c : Bool). if c then Some (store_of k x i v) else None) b, b)
    go (Some (Raw head bytes)) y e = absurd (cc)
    go (Some (Method head header literals bytecodes)) y e = absurd (cc)
    go (Some (Ctx c)) y e = absurd (cc)

pub pointer_missing : (k : Kept) (x v : Ref) (i : ℕ) → is_context_ref k x ≡ false → target_of k x i ≡ Missing → pointer_put k x (Some i) v ≡ None
pointer_missing k x v i other h = go (object_of k x) other (slot_missing (slot_at k x i) (is_read_only k x) h)
  where
    go : (o : Option Obj) → is_some (context_in o) ≡ false → option_and_then (λ slots. slice_get slots i) (slots_in o) ≡ None → slot_put k x i v o ≡ None
    go None c e = refl
    go (Some (Ptr head slots)) c e = ap (λ (c : Bool). if c then Some (store_of k x i v) else None) (beyond slots i e)
    go (Some (Raw head bytes)) c e = refl
    go (Some (Method head header literals bytecodes)) c e = refl
    go (Some (Ctx d)) c e = absurd (cc)

pub pointer_fixed : (k : Kept) (x : Ref) (i : ℕ) → target_of k x i ≡ ReadOnly → is_read_only k x ≡ true
pointer_fixed k x i h = (slot_read_only (slot_at k x i) (is_read_only k x) h).1.1

pub pointer_refused : (k : Kept) (x v : Ref) (i : ℕ) (t : StoreTarget) → is_context_ref k x ≡ false → t ≡ target_of k x i → (t ≡ Missing) ⊎ (t ≡ ReadOnly)
    → unless_read_only k x (answer_in (pointer_put k x (Some i) v) k 2 v) ≡ fail k
pointer_refused k x v i t other is (inl e) = put_none k x v (pointer_put k x (Some i) v) (pointer_missing k x v i other (sym is ∙ e))
pointer_refused k x v i t other is (inr e) = put_fixed k x v (pointer_put k x (Some i) v) (pointer_fixed k x i (sym is ∙ e))

-- ---- 64

abbrev pub byte_put : Kept → Ref → Option ℕ → Option ℕ → Option Kept
byte_put k x o b = option_and_then (λ place. option_map (λ n. store_byte_of k x place n) b) o

pub byte_put-row : (k : Kept) (x y v : Ref) (o b : Option ℕ) → x ≡ receiver k 2 → y ≡ argument k 2 0 → o ≡ (if is_bytes k x then element_place k x y else None) → v ≡ argument k 2 1 → b ≡ byte_code v
    → unless_read_only k x (answer_in (byte_put k x o b) k 2 v) ≡ char_at_put_prim k 2
unfolding char_at_put_prim
byte_put-row k x y v o b is index place value code =
    ap₂ (λ p n. unless_read_only k x (answer_in (byte_put k x p n) k 2 v)) place code
    ∙ ap (λ (t : Out). unless_read_only k x t) (go (is_bytes k x))
    ∙ ap₂ (λ a u. unless_read_only k x (if is_bytes k x then answer_in (byte_put k x (element_place k x a) (byte_code u)) k 2 u else fail k)) index value
    ∙ ap (λ r. unless_read_only k r (if is_bytes k r then answer_in (byte_put k r (element_place k r (argument k 2 0)) (byte_code (argument k 2 1))) k 2 (argument k 2 1) else fail k)) is
  where
    go : (c : Bool) → answer_in (byte_put k x (if c then element_place k x y else None) (byte_code v)) k 2 v ≡ (if c then answer_in (byte_put k x (element_place k x y) (byte_code v)) k 2 v else fail k)
    go true = refl
    go false = refl

pub no_place : (k : Kept) (x : Ref) (b : Option ℕ) → byte_put k x None b ≡ None
no_place k x b = refl
