use Rattle.std.proofs.Common.{◌≡◌, ℕ, ◌+◌, ◌<◌, List, ◌++◌, length, take, map, Option, sym, ap, ◌∙◌, arith, length-append}
use Rattle.std.specs.Option.{option_map}
use Rattle.mgs_model.specs.Access.{Directory}
use Rattle.mgs_model.specs.Picture.{Picture}
use Rattle.mgs_model.specs.Seen.{Attributes, if_granted}
use Rattle.mgs_model.specs.Draw.{listing_text}
use Rattle.mgs_buffers.specs.MarkedBuffer.{MarkedBuffer}
use Rattle.mgs_buffers.specs.Told.{attributes_read}
use Rattle.mgs_screen.specs.Listings.{buffer_drawn, drawn, listed}
use Rattle.mgs_screen.proofs.Listings.{listed_more, buffer_more, listing_past}
use Rattle.mgs_screen.proofs.list_rows.draw_buffers.Goals as goal

pub loop-i-preserved : goal.loop-i-preserved
loop-i-preserved g c =
    let d : Directory = c.args.viewer.now.directory.now in
    let user : List ℕ = c.args.viewer.now.user.now in
    let ks : List MarkedBuffer = c.args.buffers.now in
    let i : ℕ = c.loop-i.i in
    let n : ℕ = c.loop-i.number in
    let p : Picture = c.args.grid.now in
    let xs : List Attributes = listed d user (take i ks) in
    let o : Option Attributes = option_map attributes_read c.attributes-attributes.result in
    let within : i < length ks = omega (arith, c.loop-i-test.true, c.len-i-end.ensures.value) in
    let more : listed d user (take (i + 1) ks) ≡ xs ++ if_granted o =
    listed_more d user ks i within ∙ ap (λ (a : Option Attributes). xs ++ if_granted a) (sym c.attributes-attributes.ensures.value) in
    record {
      grid = c.draw_buffer-number.ensures.grid
          ∙ ap (buffer_drawn c.args.sight n o) c.loop-i.invariant.grid
          ∙ buffer_more c.args.sight n xs o p c.loop-i.invariant.number (omega (arith, c.requires.room, c.rows.ensures.picture.count))
          ∙ ap (λ (told : List Attributes). drawn c.args.sight (map listing_text told) p) (sym more);
      number = c.draw_buffer-number.ensures.next
          ∙ ap (λ (k : ℕ). k + length (if_granted o)) c.loop-i.invariant.number
          ∙ sym (ap length more ∙ length-append xs (if_granted o));
      judged = c.attributes-attributes.ensures.judged;
      few = omega (arith, c.draw_buffer-number.ensures.few, c.loop-i.invariant.few);
    }

pub returns-then-is_past-clause-grid : goal.returns-then-is_past-clause-grid
returns-then-is_past-clause-grid g c =
    c.loop-i.invariant.grid
    ∙ listing_past c.args.sight c.loop-i.number c.loop-i.i c.args.viewer.now.directory.now c.args.viewer.now.user.now c.args.buffers.now c.args.grid.now c.loop-i.invariant.number (sym c.if-is_past.ensures)
