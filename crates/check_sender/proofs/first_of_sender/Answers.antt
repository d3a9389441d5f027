-- The four parts, one after another.
use Rattle.std.proofs.Common.{◌∙◌, ◌++◌, rules}
use Rattle.book.specs.Checks.{call, asked_by}
use Rattle.check_sender.specs.Parts.{line_checks, common_checks, cc_checks, dk_checks}
use Rattle.check_sender.proofs.Trying.{parted, part_stops, part_goes}
use Rattle.check_sender.proofs.first_of_sender.Goals as goal

pub returns-in_err-first_of_line : goal.returns-in_err-first_of_line
returns-in_err-first_of_line c = λ table caller. part_stops (call c.args.book.now table c.args.body.now (asked_by caller c.args.room)) line_checks (common_checks ++ (cc_checks ++ dk_checks)) _ _ _ (c.first_of_line.ensures table caller) c.in_err-first_of_line.was (search rules) ∙ parted (call c.args.book.now table c.args.body.now (asked_by caller c.args.room))

pub returns-in_err-first_of_common : goal.returns-in_err-first_of_common
returns-in_err-first_of_common c = λ table caller. part_goes (call c.args.book.now table c.args.body.now (asked_by caller c.args.room)) line_checks (common_checks ++ (cc_checks ++ dk_checks)) _ _ (c.first_of_line.ensures table caller) c.in_ok-first_of_line.was (part_stops (call c.args.book.now table c.args.body.now (asked_by caller c.args.room)) common_checks (cc_checks ++ dk_checks) _ _ _ (c.first_of_common.ensures table caller c.args.room) c.in_err-first_of_common.was (search rules)) ∙ parted (call c.args.book.now table c.args.body.now (asked_by caller c.args.room))

pub returns-in_err-first_of_cc : goal.returns-in_err-first_of_cc
returns-in_err-first_of_cc c = λ table caller. part_goes (call c.args.book.now table c.args.body.now (asked_by caller c.args.room)) line_checks (common_checks ++ (cc_checks ++ dk_checks)) _ _ (c.first_of_line.ensures table caller) c.in_ok-first_of_line.was (part_goes (call c.args.book.now table c.args.body.now (asked_by caller c.args.room)) common_checks (cc_checks ++ dk_checks) _ _ (c.first_of_common.ensures table caller c.args.room) c.in_ok-first_of_common.was (part_stops (call c.args.book.now table c.args.body.now (asked_by caller c.args.room)) cc_checks dk_checks _ _ _ (c.first_of_cc.ensures table caller c.args.room) c.in_err-first_of_cc.was (search rules))) ∙ parted (call c.args.book.now table c.args.body.now (asked_by caller c.args.room))

pub returns : goal.returns
returns c = λ table caller. part_goes (call c.args.book.now table c.args.body.now (asked_by caller c.args.room)) line_checks (common_checks ++ (cc_checks ++ dk_checks)) _ _ (c.first_of_line.ensures table caller) c.in_ok-first_of_line.was (part_goes (call c.args.book.now table c.args.body.now (asked_by caller c.args.room)) common_checks (cc_checks ++ dk_checks) _ _ (c.first_of_common.ensures table caller c.args.room) c.in_ok-first_of_common.was (part_goes (call c.args.book.now table c.args.body.now (asked_by caller c.args.room)) cc_checks dk_checks _ _ (c.first_of_cc.ensures table caller c.args.room) c.in_ok-first_of_cc.was (c.first_of_dk.ensures table caller c.args.room))) ∙ parted (call c.args.book.now table c.args.body.now (asked_by caller c.args.room))
