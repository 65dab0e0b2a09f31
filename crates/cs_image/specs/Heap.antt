-- The objects of a file as the loader keeps them.
use Rattle.std.specs.Prelude.{◌≡◌, ℕ, ◌+◌, ◌*◌, ◌<◌, ◌≤◌, ◌^◌, ◌&&◌, not, Bool, true, List, length, map, take, drop, slice_index, slice_get, option_map, Option, Some}
use Rattle.std.specs.Option.{option_map_or}
use Rattle.cs_model.specs.ImageFile.{FileObject, File, stands}
use Rattle.cs_model.specs.ImageFault.{is_well_formed}
use Rattle.cs_image.specs.declared.file.FileObject.{FileObject as Found}
use Rattle.cs_image.specs.declared.file.Placed.{Placed}
use Rattle.cs_image.specs.declared.file.FileHeap.TheInside.{Inside}

-- the object that lies there in these words
abbrev pub placed_object : List ℕ → Placed → FileObject
placed_object heap o = record {
  first = o.first;
  place = o.place;
  class = o.class;
  format = o.format;
  hash = o.hash;
  fixed = o.fixed;
  words = take o.slots (drop (o.place + 2) heap);
}

-- the object that a value of the code is
abbrev pub seen : Found → FileObject
seen o = record {
  first = o.first;
  place = o.place;
  class = o.class;
  format = o.format;
  hash = o.hash;
  fixed = o.fixed;
  words = o.words.now;
}

-- no object is whole there, or it should be well formed and isn't
abbrev pub is_faulty : Option FileObject → Bool
is_faulty o = option_map_or (λ x. stands x && not (is_well_formed x)) o true

abbrev pub file_in : Inside → File
file_in h = record { base = h.base; objects = map (placed_object h.words.items) h.objects.items }

-- The objects lie within the heap, their class indices and hashes fit a header, and they are well formed. Their numbers,
-- counted from 1, stand at their headers' places
-- and nowhere else.
pub record IsIndexed (heap : List ℕ) (objects : List Placed) (starts : List ℕ) : Type 0 where
  pub long : length starts ≡ length heap
  pub within : (k : ℕ) (o : Placed) → slice_get objects k ≡ Some o → o.place + 2 + o.slots ≤ length heap
  pub class : (k : ℕ) (o : Placed) → slice_get objects k ≡ Some o → o.class < 2 ^ 22
  pub hash : (k : ℕ) (o : Placed) → slice_get objects k ≡ Some o → o.hash < 2 ^ 22
  pub well_formed : (k : ℕ) (o : Placed) → slice_get objects k ≡ Some o → is_well_formed (placed_object heap o) ≡ true
  pub found : (k : ℕ) (o : Placed) → slice_get objects k ≡ Some o → slice_index starts o.place ≡ k + 1
  pub only : (place k : ℕ) → slice_index starts place ≡ k + 1 → option_map (λ o. o.place) (slice_get objects k) ≡ Some place

pub record IsFileHeap (h : Inside) : Type 0 where
  pub size : length h.words.items ≤ 2 ^ 27
  pub fits : h.base + 4 * length h.words.items ≤ 2 ^ 32
  pub index : IsIndexed h.words.items h.objects.items h.starts.items
