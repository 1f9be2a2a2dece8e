use Rattle.std.proofs.Common.{◌≡◌, ℕ, List, Option, sym, subst}
use Rattle.mgs_model.specs.declared.session.Arrangement.{Arrangement}
use Rattle.mgs_buffers.specs.MarkedBuffer.{MarkedBuffer}
use Rattle.mgs_buffers.proofs.MarkedLemmas.{OnErr-map, OnOk-map}
use Rattle.mgs_session.specs.declared.Session.{Session}
use Rattle.mgs_world.specs.Worlds.{session_of}
use Rattle.mgs_arrange.specs.Arranging.{IsArranged, MayBeRefused}
use Rattle.mgs_arrange.proofs.arrangements.rearrange_windows.Goals as goal

-- of the arrangement that it is
so : (c d : Arrangement) (n : Option ℕ) (ks ls : List MarkedBuffer) (x y : Session) → c ≡ d → IsArranged d n ks ls x y → IsArranged c n ks ls x y
so c d n ks ls x y is h = subst (λ (a : Arrangement). IsArranged a n ks ls x y) (sym is) h

pub returns-in-SplitWindow-clause-arranged : goal.returns-in-SplitWindow-clause-arranged
returns-in-SplitWindow-clause-arranged g c =
    OnOk-map c.split.result (λ h. so c.args.arrangement _ c.args.argument c.args.buffers.now c.split.new.buffers c.args.session.now c.split.new.session c.in-SplitWindow.is (h c.args.argument)) c.split.ensures.arranged

pub returns-in-SplitWindow-clause-may : goal.returns-in-SplitWindow-clause-may
returns-in-SplitWindow-clause-may g c =
    OnErr-map c.split.result (λ h. λ ks. subst (λ (a : Arrangement). MayBeRefused a c.args.argument (session_of ks c.args.session.now)) (sym c.in-SplitWindow.is) (h c.args.argument ks)) c.split.ensures.may

pub returns-in-DeleteWindow-clause-arranged : goal.returns-in-DeleteWindow-clause-arranged
returns-in-DeleteWindow-clause-arranged g c =
    so c.args.arrangement _ c.args.argument c.args.buffers.now c.delete.new.buffers c.args.session.now c.delete.new.session c.in-DeleteWindow.is (c.delete.ensures.arranged c.args.argument)

pub returns-in-DeleteOtherWindows-clause-arranged : goal.returns-in-DeleteOtherWindows-clause-arranged
returns-in-DeleteOtherWindows-clause-arranged g c =
    so c.args.arrangement _ c.args.argument c.args.buffers.now c.delete_others.new.buffers c.args.session.now c.delete_others.new.session c.in-DeleteOtherWindows.is (c.delete_others.ensures.arranged c.args.argument)

pub returns-in-NextWindow-clause-arranged : goal.returns-in-NextWindow-clause-arranged
returns-in-NextWindow-clause-arranged g c =
    so c.args.arrangement _ c.args.argument c.args.buffers.now c.args.buffers.now c.args.session.now c.select_next.new.session c.in-NextWindow.is (c.select_next.ensures.arranged c.args.argument c.args.buffers.now)

pub returns-in-PreviousWindow-clause-arranged : goal.returns-in-PreviousWindow-clause-arranged
returns-in-PreviousWindow-clause-arranged g c =
    so c.args.arrangement _ c.args.argument c.args.buffers.now c.args.buffers.now c.args.session.now c.select_previous.new.session c.in-PreviousWindow.is (c.select_previous.ensures.arranged c.args.argument c.args.buffers.now)

pub returns-in-ListBuffers-clause-arranged : goal.returns-in-ListBuffers-clause-arranged
returns-in-ListBuffers-clause-arranged g c =
    so c.args.arrangement _ c.args.argument c.args.buffers.now c.list_buffers.new.buffers c.args.session.now c.list_buffers.new.session c.in-ListBuffers.is (c.list_buffers.ensures.arranged c.args.argument)
