use Rattle.std.proofs.Common.{◌≡◌, ◌∙◌, List, [], ◌∷◌, pos, ap, subst, to_z, of_z, w64, rules}
use Rattle.sqlite.specs.declared.types.Value.TheVariants.{Int}
use Rattle.sqlite.specs.State.{HasCleanDisk}
use Rattle.sqlite.specs.Held.{Held, state}
use Rattle.mgs_tables.specs.declared.rows.Event.{Event}
use Rattle.mgs_tables.specs.Reading.{ShowsEvents}
use Rattle.mgs_rewind.specs.Account.{accounted, first_account}
use Rattle.mgs_ledger.specs.Reading.{ArePages, all_accounted}
use Rattle.mgs_ledger.specs.Taken.{all_noted, last_number, page_noted}
use Rattle.mgs_ledger.proofs.history.read_history.Goals as goal

pub returns-then-is_end : goal.returns-then-is_end
returns-then-is_end g c =
    let none : c.in_ok-events.events.items ≡ [] = search rules in
    let was = state g.S.Store c.loop.conn in
    let is = state g.S.Store c.read_events.new.conn in
    let had : (more : List (List Event)) (new : Held g.row.S.Denot) → ArePages g.S.Store c.loop.last more c.loop.conn new
    → (pages : List (List Event)) × ArePages g.S.Store (pos 0) pages c.args.conn.now new × (all_noted c.loop.taken.items more ≡ all_noted [] pages) × (all_accounted c.loop.account more ≡ all_accounted first_account pages) =
    subst (λ n. (more : List (List Event)) (new : Held g.row.S.Denot) → ArePages g.S.Store n more c.loop.conn new
    → (pages : List (List Event)) × ArePages g.S.Store (pos 0) pages c.args.conn.now new × (all_noted c.loop.taken.items more ≡ all_noted [] pages) × (all_accounted c.loop.account more ≡ all_accounted first_account pages)) c.loop.last-is c.loop.invariant in
    had [] c.read_events.new.conn
    (λ clean. subst (ShowsEvents (Int c.loop.last ∷ Int (pos 256) ∷ []) was is) none
    (subst (λ n. HasCleanDisk is → ShowsEvents (Int n ∷ Int (pos 256) ∷ []) was is c.in_ok-events.events.items) c.loop.last-is c.in_ok-events.ensures.shown clean))

pub loop-preserved : goal.loop-preserved
loop-preserved g c more new rest =
    let was = state g.S.Store c.loop.conn in
    let is = state g.S.Store c.read_events.new.conn in
    let page = c.in_ok-events.events.items in
    let same : c.as_slice-page.result.now ≡ page = search rules in
    let next : c.last_of-last.result ≡ last_number c.loop.last page =
    c.last_of-last.ensures ∙ (ap (λ n. last_number n c.as_slice-page.result.now) c.loop.last-is ∙ ap (last_number c.loop.last) same) in
    let had : (more : List (List Event)) (new : Held g.row.S.Denot) → ArePages g.S.Store c.loop.last more c.loop.conn new
    → (pages : List (List Event)) × ArePages g.S.Store (pos 0) pages c.args.conn.now new × (all_noted c.loop.taken.items more ≡ all_noted [] pages) × (all_accounted c.loop.account more ≡ all_accounted first_account pages) =
    subst (λ n. (more : List (List Event)) (new : Held g.row.S.Denot) → ArePages g.S.Store n more c.loop.conn new
    → (pages : List (List Event)) × ArePages g.S.Store (pos 0) pages c.args.conn.now new × (all_noted c.loop.taken.items more ≡ all_noted [] pages) × (all_accounted c.loop.account more ≡ all_accounted first_account pages)) c.loop.last-is c.loop.invariant in
    let fits : to_z w64 (of_z w64 c.last_of-last.result) ≡ c.last_of-last.result = search rules in
    let all = had (page ∷ more) new (
      c.read_events.new.conn,
      subst (λ n. HasCleanDisk is → ShowsEvents (Int n ∷ Int (pos 256) ∷ []) was is page) c.loop.last-is c.in_ok-events.ensures.shown,
      subst (λ n. ArePages g.S.Store n more c.read_events.new.conn new) (fits ∙ next) rest,
    ) in
    let noted : c.note_page.new.names.items ≡ page_noted c.loop.taken.items page = search rules in (
      all.0,
      all.1,
      ap (λ names. all_noted names more) noted ∙ all.2,
      ap (λ account. all_accounted account more) (c.in_ok-note_page-2.ensures ∙ ap (accounted c.loop.account) same) ∙ all.3,
    )
