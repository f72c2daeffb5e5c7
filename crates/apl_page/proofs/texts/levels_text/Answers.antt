use Rattle.apl_page.specs.Texts.{levels_bytes}
use Rattle.apl_page.proofs.Dues.{due_or_memory}
use Rattle.apl_page.proofs.texts.levels_text.Goals as goal

pub returns : goal.returns
returns c = due_or_memory (levels_bytes c.args.page.now) c.levels_bytes.result c.or_memory.result c.levels_bytes.ensures c.or_memory.ensures
