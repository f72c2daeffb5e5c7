use Rattle.std.proofs.Common.{◌≡◌, ◌++◌, true, map, sym, ap, ◌∙◌}
use Rattle.apl_defn.specs.Headers.{names_of}
use Rattle.apl_defn.specs.Reading.{are_distinct}
use Rattle.apl_defn.specs.Defining.{labels_from}
use Rattle.apl_defn.proofs.Limits.{defined_ok, once_ok}
use Rattle.apl_defn.proofs.defining.assembled.Goals as goal

pub new-requires : goal.new-requires
new-requires c =
    let labels = c.in_ok-labels.ensures ∙ ap (labels_from 1) c.as_slice.ensures.value in
    let names : c.as_slice-3.result.now ≡ names_of c.args.header ++ map (λ l. l.0) c.in_ok-labels.labels.items = c.as_slice-3.ensures.value ∙ c.in_ok-names.ensures ∙ ap (λ ls. names_of c.args.header ++ map (λ l. l.0) ls) c.as_slice-2.ensures.value in
    let once : c.are_distinct.result ≡ true = cc in
    defined_ok c.args.header c.args.lines.items c.in_ok-labels.labels.items c.requires labels (ap are_distinct (sym names) ∙ sym c.are_distinct.ensures ∙ once)

pub returns : goal.returns
returns c =
    let labels = c.in_ok-labels.ensures ∙ ap (labels_from 1) c.as_slice.ensures.value in
    let names : c.as_slice-3.result.now ≡ names_of c.args.header ++ map (λ l. l.0) c.in_ok-labels.labels.items = c.as_slice-3.ensures.value ∙ c.in_ok-names.ensures ∙ ap (λ ls. names_of c.args.header ++ map (λ l. l.0) ls) c.as_slice-2.ensures.value in
    let once : c.are_distinct.result ≡ true = cc in
    rw c.new.ensures (once_ok c.args.header c.args.lines.items c.in_ok-labels.labels.items labels (ap are_distinct (sym names) ∙ sym c.are_distinct.ensures ∙ once))
