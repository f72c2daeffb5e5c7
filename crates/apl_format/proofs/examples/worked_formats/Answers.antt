use Rattle.std.proofs.Common.{refl}
use Rattle.std.specs.Fmt.{digits}
use Rattle.apl_format.specs.Display.{display, lines_of, matrix_lines, vector_line, row_line, rows, planes, widths, joined, padded, number_text}
use Rattle.apl_format.specs.Formatted.{row_width, text_of}
use Rattle.apl_format.proofs.examples.worked_formats.Goals as goal

pub returns-clause-scalar : goal.returns-clause-scalar
unfolding text_of row_width display lines_of matrix_lines vector_line row_line rows planes widths joined padded number_text digits
returns-clause-scalar c = refl

pub returns-clause-vector : goal.returns-clause-vector
unfolding text_of row_width display lines_of matrix_lines vector_line row_line rows planes widths joined padded number_text digits
returns-clause-vector c = refl

pub returns-clause-empty : goal.returns-clause-empty
unfolding text_of row_width display lines_of matrix_lines vector_line row_line rows planes widths joined padded number_text digits
returns-clause-empty c = refl

pub returns-clause-matrix : goal.returns-clause-matrix
unfolding text_of row_width display lines_of matrix_lines vector_line row_line rows planes widths joined padded number_text digits
returns-clause-matrix c = refl

pub returns-clause-planes : goal.returns-clause-planes
unfolding text_of row_width display lines_of matrix_lines vector_line row_line rows planes widths joined padded number_text digits
returns-clause-planes c = refl

pub returns-clause-characters : goal.returns-clause-characters
unfolding text_of row_width display lines_of matrix_lines vector_line row_line rows planes widths joined padded number_text digits
returns-clause-characters c = refl

pub returns-clause-no_rows : goal.returns-clause-no_rows
unfolding text_of row_width display lines_of matrix_lines vector_line row_line rows planes widths joined padded number_text digits
returns-clause-no_rows c = refl

pub returns-clause-no_columns : goal.returns-clause-no_columns
unfolding text_of row_width display lines_of matrix_lines vector_line row_line rows planes widths joined padded number_text digits
returns-clause-no_columns c = refl
