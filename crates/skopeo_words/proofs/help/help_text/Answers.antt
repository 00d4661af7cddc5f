use Rattle.skopeo_words.proofs.HelpLaw.{is_on, names_options}
use Rattle.skopeo_words.proofs.help.help_text.Goals as goal

pub returns-clause-usage : goal.returns-clause-usage
returns-clause-usage c = rw c.page_text.ensures (is_on c.args.page)

pub returns-clause-options : goal.returns-clause-options
returns-clause-options c = rw c.page_text.ensures (names_options c.args.page)
