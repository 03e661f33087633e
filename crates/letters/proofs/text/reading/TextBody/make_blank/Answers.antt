use Rattle.std.proofs.Common.{sym, ap, ◌∙◌}
use Rattle.letters.specs.Texts.{text_of}
use Rattle.letters.specs.TextsLemmas.{text_lawful}
use Rattle.letters.proofs.text.reading.TextBody.make_blank.Goals as goal

pub returns : goal.returns
returns c = sym (text_lawful.back c.default.result) ∙ ap text_of c.default.ensures
