-- Why a file gives no image.
use Rattle.std.proofs.Common.{◌≡◌, ◌<◌, ℕ, true, List, Option, Some, None, IfSome, Err, length, refl, arith, replicate}
use Rattle.std.proofs.lemmas.Bool.Decides.{nat_tests}
use Rattle.std.proofs.lemmas.List.{length-replicate}
use Rattle.cs_model.specs.Image.{image_fault, image_of}
use Rattle.cs_model.specs.ImageFault.{ImageFault, TooLong, is_long_file}
use Rattle.cs_image.specs.Answer.{Tells}
use Rattle.cs_image.specs.declared.error.ImageError.{ImageError}
use Rattle.cs_image.specs.declared.error.ImageError.TheVariants as error
use Rattle.cs_cli.specs.Answer.{HasFault}
use Rattle.cs_cli.specs.Loading.{fault_by}

abbrev Told : Option (List ℕ) → List ℕ → Type 0
Told content bytes = IfSome content (λ held. bytes ≡ held)

has_fault : (content : Option (List ℕ)) (limit : ℕ) (bytes : List ℕ) (f : ImageFault) → Told content bytes → image_fault bytes limit ≡ Some f → HasFault content limit f
unfolding image_of
has_fault content limit bytes f told h = record { bytes = bytes; told = told; is = rw h refl }

-- what the loader tells of the bytes that were read
pub faulty : {X : Type 0} (P : X → Type 0) (content : Option (List ℕ)) (limit : ℕ) (bytes : List ℕ) (e : ImageError) → Told content bytes
    → Tells (image_fault bytes limit) P (Err e) → IfSome (fault_by e) (HasFault content limit)
faulty P content limit bytes error.TooLong told h = has_fault content limit bytes _ told h
faulty P content limit bytes error.Short told h = has_fault content limit bytes _ told h
faulty P content limit bytes error.BadFormat told h = has_fault content limit bytes _ told h
faulty P content limit bytes error.BadHeaderSize told h = has_fault content limit bytes _ told h
faulty P content limit bytes error.BadProfile told h = has_fault content limit bytes _ told h
faulty P content limit bytes error.BadLength told h = has_fault content limit bytes _ told h
faulty P content limit bytes (error.BadObject at) told h = has_fault content limit bytes _ told h
faulty P content limit bytes error.OverLimit told h = has_fault content limit bytes _ told h
faulty P content limit bytes error.BadTable told h = has_fault content limit bytes _ told h
faulty P content limit bytes (error.BadRef at) told h = has_fault content limit bytes _ told h
faulty P content limit bytes (error.BadClass at) told h = has_fault content limit bytes _ told h
faulty P content limit bytes (error.BadContext at) told h = has_fault content limit bytes _ told h
faulty P content limit bytes error.BadRoots told h = has_fault content limit bytes _ told h
faulty P content limit bytes error.BadBirths told h = has_fault content limit bytes _ told h
faulty P content limit bytes error.NoMemory told h = tt

-- a file that is longer than an image may be
long_fault : (bytes : List ℕ) (limit : ℕ) → 536870912 < length bytes → image_fault bytes limit ≡ Some TooLong
unfolding image_fault
long_fault bytes limit long =
    let is : is_long_file bytes ≡ true = grind (arith, nat_tests, long) in
    rw is refl

some_long : (limit n : ℕ) → 536870912 < n → HasFault None limit TooLong
some_long limit n long = has_fault None limit (replicate n 0) TooLong tt (long_fault (replicate n 0) limit (omega (arith, long, length-replicate {A = ℕ} n 0)))

pub too_long : (content : Option (List ℕ)) (limit : ℕ) → IfSome content (λ held. 536870912 < length held) → HasFault content limit TooLong
too_long None limit long = some_long limit 536870913 (omega arith)
too_long (Some held) limit long = has_fault (Some held) limit held TooLong refl (long_fault held limit long)
