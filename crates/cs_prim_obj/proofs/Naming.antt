-- What the words of numbers and Characters name.
use Rattle.std.proofs.Common.{◌≡◌, ◌∙◌, ℕ, ◌<◌, ◌^◌, true, sym, ap, subst, pos}
use Rattle.cs_word.specs.declared.Oop.{Oop}
use Rattle.cs_word.specs.Word.{character_word, small_word}
use Rattle.cs_classes.specs.Meaning.{ref_of}
use Rattle.cs_classes.specs.Sound.{is_reference}
use Rattle.cs_classes.proofs.Refs.{is_reference-character, is_reference-small, ref_of-character, ref_of-small, small_natural}
use Rattle.cs_model.specs.Ref.{Char, Small}
use Rattle.cs_acts.specs.Names.{Names, Store}

pub natural_names : (s : Store) (n : ℕ) (o : Oop) → n < 2 ^ 30 → o.0 ≡ small_word (pos n) → Names s o (Small (pos n))
natural_names s n o l e = record {
  sound = subst (λ w. is_reference s.memory.objects w ≡ true) (sym e) (is_reference-small s.memory.objects (pos n) (small_natural n l));
  is = ap (ref_of s.memory.objects) e ∙ ref_of-small s.memory.objects (pos n) (small_natural n l);
}

pub character_names : (s : Store) (code : ℕ) (o : Oop) → o.0 ≡ character_word code → Names s o (Char code)
character_names s code o e = record {
  sound = subst (λ w. is_reference s.memory.objects w ≡ true) (sym e) (is_reference-character s.memory.objects code);
  is = ap (ref_of s.memory.objects) e ∙ ref_of-character s.memory.objects code;
}
