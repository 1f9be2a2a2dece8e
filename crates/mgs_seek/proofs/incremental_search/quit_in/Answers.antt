use Rattle.mgs_seek.proofs.Lifts.{marks_held}
use Rattle.mgs_seek.proofs.Seeks.{quit_does, quit_only}
use Rattle.mgs_seek.proofs.incremental_search.quit_in.Goals as goal

pub go_back-requires : goal.go_back-requires
go_back-requires g c = λ x sel. marks_held c.args.buffers.now c.args.session.now x c.requires sel

pub returns-clause-only : goal.returns-clause-only
returns-clause-only g c = rw (c.go_back.ensures, c.fail.ensures) (quit_only c.args.buffers.now c.args.session.now c.requires)

pub returns-clause-does : goal.returns-clause-does
returns-clause-does g c = λ directory. rw (c.go_back.ensures, c.fail.ensures) (quit_does c.args.buffers.now c.args.session.now c.requires directory)
