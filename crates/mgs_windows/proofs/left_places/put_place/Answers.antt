use Rattle.std.proofs.Common.{◌≡◌, ℕ, List, length, arith, sym, ap, ◌∙◌}
use Rattle.mgs_windows.specs.declared.WindowMarks.{WindowMarks}
use Rattle.mgs_windows.proofs.PlaceLists.{put_last, put_there}
use Rattle.mgs_windows.specs.Panes.{is_place_in}
use Rattle.std.specs.List.{position_or_len}
use Rattle.mgs_windows.proofs.left_places.put_place.Goals as goal

-- the index that was found is the one in the vector's list
at_index : (p : WindowMarks) (xs ys : List WindowMarks) (i : ℕ) → i ≡ position_or_len (is_place_in p.name) xs → xs ≡ ys → i ≡ position_or_len (is_place_in p.name) ys
at_index p xs ys i e same = e ∙ ap (position_or_len (is_place_in p.name)) same

pub returns-then-index-len-clause-places : goal.returns-then-index-len-clause-places
returns-then-index-len-clause-places c =
    c.push_reserved.ensures.items ∙ (put_last c.args.place c.args.places.now.items (sym (at_index c.args.place _ _ _ c.index_of-index.ensures.value c.deref.ensures.value) ∙ c.if-index-len.true ∙ c.len.ensures ∙ sym c.deref.ensures.len ∙ ap length c.deref.ensures.value)).0

pub returns-then-index-len-clause-before : goal.returns-then-index-len-clause-before
returns-then-index-len-clause-before c =
    sym (put_last c.args.place c.args.places.now.items (sym (at_index c.args.place _ _ _ c.index_of-index.ensures.value c.deref.ensures.value) ∙ c.if-index-len.true ∙ c.len.ensures ∙ sym c.deref.ensures.len ∙ ap length c.deref.ensures.value)).1

pub returns-clause-places : goal.returns-clause-places
returns-clause-places c =
    (put_there c.args.place c.args.places.now.items c.index_of-index.result c.index-before.result.now (at_index c.args.place _ _ _ c.index_of-index.ensures.value c.deref.ensures.value) (omega (arith, c.index_of-index.ensures.within, ap length c.deref.ensures.value, c.len.ensures, c.if-index-len.false)) c.index-before.ensures).0

pub returns-clause-before : goal.returns-clause-before
returns-clause-before c =
    (put_there c.args.place c.args.places.now.items c.index_of-index.result c.index-before.result.now (at_index c.args.place _ _ _ c.index_of-index.ensures.value c.deref.ensures.value) (omega (arith, c.index_of-index.ensures.within, ap length c.deref.ensures.value, c.len.ensures, c.if-index-len.false)) c.index-before.ensures).1
