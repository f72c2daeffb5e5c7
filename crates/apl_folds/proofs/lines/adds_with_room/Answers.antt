use Rattle.apl_folds.proofs.lines.adds_with_room.Goals as goal

pub returns-in-Plus : goal.returns-in-Plus
returns-in-Plus g c = record { plus = λ t. c.in-Plus.is; room = λ t. record { bound = c.most.result; within = c.most.ensures; fits = c.has_room.ensures t } }
