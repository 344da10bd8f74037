-- Reading what was written of a map gives that map back.
use Rattle.std.proofs.Common.{◌≡◌, ℕ, ◌+◌, ◌-◌, ◌<◌, ◌≤◌, List, length, get_or, Ok, Result, sym, ap, ◌∙◌, subst, arith}
use Rattle.std.specs.List.{AllByRecursion as All}
use Rattle.std.proofs.ByRecursion.{All-from_get_or}
use Rattle.refusals.proofs.Checks.{clash}
use Rattle.rfc4180.specs.Grammar.{File}
use Rattle.rfc4180.specs.Places.{Parse, records_of}
use Rattle.rfc4180.proofs.Possible.{parsed}
use Rattle.rfc4180.proofs.Unique.{unique}
use Rattle.feeder.specs.declared.line.Line.{Line}
use Rattle.feeder.specs.declared.map.Map.{Map}
use Rattle.feeder.specs.Feeder.{blank, distance}
use Rattle.feeder.specs.Build.{IsBeyond, Lowest}
use Rattle.feeder.specs.View.{lines_of, metered_of}
use Rattle.feeder.proofs.Maps.{parents, resists, map_feeder, map_stands}
use Rattle.feeder.proofs.Builds.{feeder_reaches}
use Rattle.feeder.proofs.SameMaps.{maps_are_their_lines}
use Rattle.files.specs.declared.fault.FileFault.{FileFault}
use Rattle.printing.specs.MapTexts.{map_text}
use Rattle.printing.proofs.MapTexts.{resistance_most, maps_are_short}
use Rattle.maps.specs.Lines.{map_lines}
use Rattle.maps.specs.Rules.{AreLinesOf}
use Rattle.maps.specs.Reading.{MapReading, long, broken, faulty, unreached, drawn}
use Rattle.maps.specs.RoundTrip.{ReadBack, WrittenMapsAreRead}
use Rattle.maps.proofs.Files.{Wired, fault_file, file_right}
use Rattle.maps.proofs.Trees.{tree_of, tree_parse, tree_back}

-- each line of a map goes up to a bus, and its resistance is 1 to 1,000,000
map_wires : (m : Map) → All (Wired (length (lines_of m))) (lines_of m)
map_wires m = All-from_get_or (Wired (length (lines_of m))) (lines_of m) blank at
  where
    at : (i : ℕ) → i < length (lines_of m) → Wired (length (lines_of m)) (get_or (lines_of m) i blank)
    at i h =
        let b = i + 1 in
        let place : b - 1 ≡ i = omega arith in
        let bus : (0 < b) × (b ≤ length (lines_of m)) = (omega arith, omega arith) in
        let wired : Wired (length (lines_of m)) (get_or (lines_of m) (b - 1) blank) = record { upper = parents m b bus; some = resists m b bus; most = resistance_most m b bus } in
        subst (λ k. Wired (length (lines_of m)) (get_or (lines_of m) k blank)) place wired

module _ (m : Map) (some : 1 ≤ length (lines_of m)) (few : length (lines_of m) ≤ 64) where
  abbrev text : List ℕ
  text = map_text (lines_of m)

  -- the records of the written file are those of its tree
  back : (f : File) → Parse f text → map_lines (length text) (records_of f) ≡ Ok (lines_of m)
  back f parse =
      ap (λ (g : File). map_lines (length text) (records_of g)) (unique f (tree_of (lines_of m)) text parse (tree_parse (lines_of m)))
      ∙ tree_back (length text) (lines_of m) some few (map_wires m)

  lines_back : (f : File) (F : List Line) → Parse f text → AreLinesOf (records_of f) F → F ≡ lines_of m
  lines_back f F parse lines = same_ok (sym (file_right (length text) (records_of f) F lines) ∙ back f parse)
    where
      same_ok : {x y : List Line} → ◌≡◌ {A = Result (List Line) FileFault} (Ok x) (Ok y) → x ≡ y
      same_ok e = cc

  pub read_back : (r : Result Map FileFault) → MapReading text r → ReadBack m r
  read_back r (long h e) = absurd (omega (arith, h, (maps_are_short m).0))
  read_back r (broken i h bad e) = absurd (parsed text (tree_of (lines_of m)) i (tree_parse (lines_of m)) bad)
  read_back r (faulty f fault h parse first e) = (let g = fault_file (length text) (records_of f) fault first in let k = back f parse in clash cc)
  read_back r (unreached f F b h parse lines low e) =
      let far = subst (λ G. Lowest G (IsBeyond G) b) (lines_back f F parse lines) low in
      absurd (far.1 (distance (lines_of m) b) (feeder_reaches (lines_of m) (map_feeder m some) b) ((map_stands m).near b far.0.1))
  read_back r (drawn f read h parse lines metered e) =
      let same = lines_back f (lines_of read) parse lines in
      let all : metered_of read ≡ length (lines_of m) = metered ∙ ap length same in
      record { read = read; accepted = e; lines = same; metered = all; same = λ own. maps_are_their_lines read m (all ∙ sym own) same }

pub written_maps_are_read : WrittenMapsAreRead
written_maps_are_read m r some few reading = read_back m some few r reading
