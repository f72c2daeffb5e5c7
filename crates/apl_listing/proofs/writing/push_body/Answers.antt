use Rattle.std.proofs.Common.{decimal}
use Rattle.apl_listing.specs.Listing.{action_words, operand_words}
use Rattle.apl_listing.proofs.Fields.{body_written}
use Rattle.apl_listing.proofs.writing.push_body.Goals as goal

pub returns : goal.returns
returns c =
    let i = c.args.instr.now in
    rw (c.in_ok-push_number-2.ensures, c.in_ok-push_ascii-2.ensures, c.in_ok-push_operands.ensures, c.in_ok-push_action.ensures, c.in_ok-push_ascii.ensures, c.in_ok-push_number.ensures) (body_written c.args.out.now.items (decimal c.args.number) (action_words i.action) (operand_words i.action i.arguments) (decimal i.at))
