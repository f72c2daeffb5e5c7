use Rattle.apl_page.specs.Texts.{names_bytes}
use Rattle.apl_page.proofs.Dues.{due_or_memory}
use Rattle.apl_page.proofs.texts.names_text.Goals as goal

pub returns : goal.returns
returns c = due_or_memory (names_bytes c.args.page.now) c.names_bytes.result c.or_memory.result c.names_bytes.ensures c.or_memory.ensures
