-- What the lines of a text without fault refer to is among its objects.
use Rattle.std.proofs.Common.{◌≡◌, ℕ, ◌+◌, length}
use Rattle.std.specs.Prelude.{List}
use Rattle.cs_model.specs.BuilderText.{Form}
use Rattle.cs_model.specs.Builder.{first_symbol, symbols_of, text_objects}
use Rattle.cs_build.specs.Judged.{IsJudged}
use Rattle.cs_build.proofs.Encoding.{bytecodes_fit}
use Rattle.cs_build.proofs.Heading.{header_counted, header_formed, header_small, literals_few, literals_fit}
use Rattle.cs_build.proofs.LineShapes.{AreReferred, Refers}
use Rattle.cs_build.proofs.Referring.{class_fits, context_fits, dictionary_fits, mention_fits, method_birth_fits, number_fits, process_fits, symbol_fits, values_below}
use Rattle.cs_build.proofs.Totalling.{total_made}

referred_among : (forms : List Form) (total : ℕ) → IsJudged forms → total ≡ first_symbol forms + length (symbols_of forms) → AreReferred forms total
referred_among forms total judged counted = record {
  numbers = λ n h. number_fits forms total counted n h;
  mentions = λ m h. mention_fits forms total counted m h;
  symbols = λ name. symbol_fits forms total counted name;
  classes = λ name. class_fits forms total counted name;
  methods = λ class selector. method_birth_fits forms total counted class selector;
  dictionaries = λ class. dictionary_fits forms total counted class;
  values = λ place h. values_below forms total counted place h;
  processes = λ name. process_fits forms total counted name;
  contexts = λ name. context_fits forms total counted name;
  literals = λ line. literals_fit forms total judged counted line;
  literals_few = λ line. literals_few forms line judged;
  bytecodes = λ line h. bytecodes_fit forms line judged h;
  headers_small = λ line n h few. header_small line h n few;
  headers_counted = λ line n h few. header_counted line h n few;
  headers = λ line n h few. header_formed line h n few;
}

pub referred : (forms : List Form) → IsJudged forms → Refers forms
referred forms judged = referred_among forms (length (text_objects forms)) judged (total_made forms judged)
