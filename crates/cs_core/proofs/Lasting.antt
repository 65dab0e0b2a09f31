-- What is to be written is the same behind the answer, which changes the active context alone.
use Rattle.std.proofs.Common.{◌≡◌, ℕ, Bool, true, false, refl, sym, ap, subst, ◌∙◌, Option, Some, None, List, inl, inr}
use Rattle.std.proofs.lemmas.Bool.{false≢true}
use Rattle.std.proofs.lemmas.Bool.Decides.{eqb_tells}
use Rattle.std.specs.Prelude.{◌&&◌}
use Rattle.cs_word.specs.Word.{natural_of_word}
use Rattle.cs_word.specs.declared.Oop.{Oop}
use Rattle.cs_heap.specs.Object.{is_object}
use Rattle.cs_classes.proofs.Refs.{index_of-ref_of, ref_of-object}
use Rattle.cs_model.specs.Ref.{Ref}
use Rattle.cs_model.specs.Ref as ref
use Rattle.cs_model.specs.Obj.{Obj, Context, Ptr, Raw, Method, Ctx, pushed, popped}
use Rattle.cs_model.specs.State.{Kept, object_at, object_of}
use Rattle.cs_model.specs.Keeps.{Keeps}
use Rattle.cs_model.specs.Read.{IsRunning, active_birth}
use Rattle.cs_model.specs.Operation.{drop_of, push_of, put_active}
use Rattle.cs_model.specs.PrimObject.{byte_string}
use Rattle.cs_model.specs.PrimRun.{bytes_to_write, or_bytes, small_byte}
use Rattle.cs_model.proofs.Editing.{edit_twice}
use Rattle.cs_model.proofs.Objects.{object_at-put_other, object_at-put_same}
use Rattle.cs_acts.specs.Names.{IsNamed, KeepsNames, Names, Store, name_of}
use Rattle.cs_acts.specs.Ready.{IsReady, IsSound}
use Rattle.cs_core.specs.declared.primitive.Piece.{Piece}
use Rattle.cs_core.specs.declared.primitive.Piece.TheVariants.{Byte, Bytes}
use Rattle.cs_core.specs.Pieces.{IsPieceOf, bytes_at, bytes_of_piece, is_bytes_at, is_piece}
use Rattle.cs_core.proofs.Piecing.{byte_else, bytes_there}

-- ---- in the state

bytes-put : (k : Kept) (c : Context) (y : Ref) → IsRunning k → byte_string (object_of (put_active k c) y) ≡ byte_string (object_of k y)
bytes-put k c (ref.Small z) r = refl
bytes-put k c (ref.Char z) r = refl
bytes-put k c (ref.Obj j) r = elim (eqb_tells j (active_birth k)) [
  | inl e ↦ ap (λ n. byte_string (object_at (put_active k c) n)) e.1 ∙ ap byte_string (object_at-put_same k (active_birth k) (Ctx c))
      ∙ sym (ap (λ n. byte_string (object_at k n)) e.1 ∙ ap byte_string r.found)
  | inr e ↦ ap byte_string (object_at-put_other k (active_birth k) j (Ctx c) e.1)
]

pub write_behind : (k : Kept) (x y : Ref) → IsRunning k → bytes_to_write (push_of (drop_of k 2) x) y ≡ bytes_to_write k y
unfolding push_of drop_of bytes_to_write
write_behind k x y r =
    ap (λ m. bytes_to_write m y) (edit_twice k (popped 2) (pushed x)) ∙ ap (λ bytes. or_bytes bytes (small_byte (ref.small_index y))) (bytes-put k _ y r)

-- a state that keeps another one has its byte objects
bytes_kept : (v m : Kept) (y : Ref) (bytes : List ℕ) → Keeps v m → bytes_to_write m y ≡ Some bytes → bytes_to_write v y ≡ Some bytes
unfolding bytes_to_write
bytes_kept v m (ref.Small z) bytes k h = h
bytes_kept v m (ref.Char c) bytes k h = h
bytes_kept v m (ref.Obj i) bytes k h = go (object_at m i) refl h
  where
    go : (o : Option Obj) → object_at m i ≡ o → or_bytes (byte_string o) None ≡ Some bytes → or_bytes (byte_string (object_at v i)) None ≡ Some bytes
    go None e h = absurd (cc)
    go (Some (Ptr head slots)) e h = absurd (cc)
    go (Some (Raw head bs)) e h = ap (λ o. or_bytes (byte_string o) None) (k.whole i (Raw head bs) e refl) ∙ h
    go (Some (Method head header literals bytecodes)) e h = absurd (cc)
    go (Some (Ctx c)) e h = absurd (cc)

-- ---- in the heap

-- a piece that was taken before the answer can be written behind it, and is the same bytes
pub record Lasts (old new : Store) (p : Piece) : Type 0 where
  pub piece : is_piece new.memory.objects p ≡ true
  pub bytes : bytes_of_piece new.memory.objects p ≡ bytes_of_piece old.memory.objects p

bytes_last : (s t : Store) (k v : Kept) (x : Ref) (o : Oop) → IsReady s k → IsSound t v → IsNamed s o → Names t o (name_of s o) → Keeps v (push_of (drop_of k 2) x) → is_bytes_at s.memory.objects o.0 ≡ true → Lasts s t (Bytes o)
bytes_last s t k v x o ready sound named names keeps is = go (is_bytes_at t.memory.objects o.0) refl
  where
    before : bytes_to_write k (name_of s o) ≡ Some (bytes_at s.memory.objects o.0)
    before = sym (bytes_there s k o ready.sound.holds named is)

    behind : bytes_to_write v (name_of t o) ≡ Some (bytes_at s.memory.objects o.0)
    behind = ap (bytes_to_write v) names.is ∙ bytes_kept v _ (name_of s o) _ keeps (write_behind k x (name_of s o) ready.running ∙ before)

    first : (a b : Bool) → (a && b) ≡ true → a ≡ true
    first true b h = refl
    first false b h = absurd (false≢true h)

    no_number : natural_of_word o.0 ≡ None
    no_number = sym (index_of-ref_of s.memory.objects o.0 named) ∙ ap ref.small_index (ref_of-object s.memory.objects o.0 (first (is_object s.memory.objects o.0) _ is))

    go : (b : Bool) → is_bytes_at t.memory.objects o.0 ≡ b → Lasts s t (Bytes o)
    go true e =
        let same : Some (bytes_at t.memory.objects o.0) ≡ Some (bytes_at s.memory.objects o.0) = bytes_there t v o sound.holds names.sound e ∙ behind in
        record { piece = e; bytes = cc }
    go false e =
        let none : None ≡ Some (bytes_at s.memory.objects o.0) = sym (ap small_byte no_number) ∙ byte_else t v o sound.holds names.sound e ∙ behind in
        absurd (cc)

pub piece_lasts : (s t : Store) (k v : Kept) (x : Ref) (o : Oop) (p : Piece) → IsReady s k → IsSound t v → IsNamed s o → KeepsNames s t → Keeps v (push_of (drop_of k 2) x)
    → is_piece s.memory.objects p ≡ true → IsPieceOf o p → Lasts s t p
piece_lasts s t k v x o (Byte byte) ready sound named names keeps is own = record { piece = refl; bytes = refl }
piece_lasts s t k v x o (Bytes object) ready sound named names keeps is own =
    subst (λ q. Lasts s t (Bytes q)) (sym own) (bytes_last s t k v x o ready sound named (names o named) keeps (subst (λ (q : Oop). is_bytes_at s.memory.objects q.0 ≡ true) own is))
