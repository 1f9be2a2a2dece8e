use Rattle.std.proofs.Common.{◌≡◌, ◌++◌, All, map, string_bytes}
use Rattle.mgs_disk.specs.Places.{IsTold, row_of, row_in, bytes_of}
use Rattle.mgs_disk.proofs.save_places.places_of.Given as goal

-- the files so far have their places
abbrev pub invariant-loop-file : goal.invariant-loop-file
invariant-loop-file g l = record {
  named : map row_in l.places.items ++ map row_of l.file-iterator.rest.items ≡ map row_of l.fn.files.items;
  found : All (λ place. IsTold (g.F.Finds.leads l.finds (string_bytes place.given)) (bytes_of place.path)) l.places.items;
}
