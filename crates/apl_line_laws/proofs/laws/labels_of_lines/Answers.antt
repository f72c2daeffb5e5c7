use Rattle.apl_line_laws.proofs.Labels.{definitions_have_labels, have_one_labels, tokens_have_labels}
use Rattle.apl_line_laws.proofs.laws.labels_of_lines.Goals as goal

pub returns-clause-tokens : goal.returns-clause-tokens
returns-clause-tokens c = tokens_have_labels

pub returns-clause-definitions : goal.returns-clause-definitions
returns-clause-definitions c = definitions_have_labels

pub returns-clause-one : goal.returns-clause-one
returns-clause-one c = have_one_labels
