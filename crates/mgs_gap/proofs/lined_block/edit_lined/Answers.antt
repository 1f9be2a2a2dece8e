use Rattle.std.proofs.Common.{ap, length, arith, length-append}
use Rattle.mgs_gap.specs.Feeds.{feeds_from}
use Rattle.mgs_gap.proofs.FeedLists.{length-feeds_from}
use Rattle.mgs_gap.proofs.FeedEdits.{feeds_edited}
use Rattle.mgs_gap.proofs.lined_block.edit_lined.Goals as goal

pub returns-clause-feeds : goal.returns-clause-feeds
returns-clause-feeds c =
    feeds_edited c.args.block.now c.reserve.new.self c.gap_to.new.self c.delete.new.self c.insert.new.self c.args.a c.args.b c.args.put.now c.reserve.ensures.text c.gap_to.ensures c.delete.ensures c.insert.ensures
    c.front.result.now c.back.result.now c.back-2.result.now c.front.ensures c.back.ensures c.back-2.ensures
    c.cut_at.new.self.before.items c.cut_at.new.self.after.items c.delete_after.new.self.before.items c.delete_after.new.self.after.items c.insert_before.new.self.before.items c.insert_before.new.self.after.items
    (omega (arith, c.requires.order, c.requires.within)) c.cut_at.ensures.feeds c.delete_after.ensures.before c.delete_after.ensures.after c.insert_before.ensures.before c.insert_before.ensures.after

pub returns-clause-room : goal.returns-clause-room
returns-clause-room c = λ _.
    let cut = c.cut_at.new.self in let deleted = c.delete_after.new.self in let put = feeds_from c.args.a c.args.put.now in
    omega (
      arith,
      c.in_ok-make_room.ensures.room_before,
      c.count.ensures,
      c.cut_at.ensures.number,
      c.cut_at.ensures.capacity,
      ap length c.delete_after.ensures.before,
      c.delete_after.ensures.fewer,
      c.delete_after.ensures.capacity,
      ap length c.insert_before.ensures.before,
      length-append deleted.before.items put,
      length-feeds_from c.args.a c.args.put.now,
      ap length c.insert_before.ensures.after,
      c.insert_before.ensures.capacity,
    )
