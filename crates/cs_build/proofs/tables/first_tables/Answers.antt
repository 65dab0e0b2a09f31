use Rattle.std.proofs.Common.{◌&&◌, [], ap, refl, nat_eq}
use Rattle.std.specs.Map.{lookup}
use Rattle.std.specs.Cmp.Lexicographic.{pointwise}
use Rattle.cs_build.proofs.tables.first_tables.Goals as goal

pub returns : goal.returns
returns c = record {
  names = c.in_ok-known_names.ensures;
  methods = record {
    arguments = λ k s. ap (lookup (λ key. pointwise nat_eq k key.0.now && pointwise nat_eq s key.1.now)) c.new.ensures.empty;
  };
  active = refl;
  open_end = refl;
  body = c.empty_body.ensures [] refl refl;
}
