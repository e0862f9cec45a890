-- Law. Worked examples, on trees.
use Rattle.std.specs.Prelude.{◌≡◌, refl, [], ◌∷◌, true, false, pos, negsuc}
use Rattle.std.proofs.Math.Option.{none, some}
use Rattle.realtime.specs.Tree.{Tree, end, num, txt, msg}
use Rattle.realtime.specs.Views.{header, deleted, trip, stop_update}

-- an entity with one trip_update, 3, whose one trip, 1, has these fields
descriptor : Tree → Tree
descriptor t = msg 3 3 (msg 1 4 t end) end

-- each listed field is shown where it belongs
every_header : header (msg 1 1 (num 2 1 (num 3 7 end)) end) ≡ record { differential = true; timestamp = some 7 }
every_header = refl

every_trip :
    trip (msg 3 3 (msg 1 4 (txt 1 (1 ∷ []) (txt 2 (2 ∷ []) (txt 3 (3 ∷ [])
    (num 4 3 (txt 5 (5 ∷ []) (num 6 6 end)))))) (num 5 9 end)) end)
    ≡ record {
      id = 1 ∷ [];
      time = 2 ∷ [];
      date = 3 ∷ [];
      route = 5 ∷ [];
      cancelled = true;
      direction = some 6;
      delay = some (pos 9);
    }
every_trip = refl

every_stop :
    stop_update (num 1 1 (msg 2 6 (num 1 2 (num 2 3 end))
    (msg 3 6 (num 1 4 (num 2 5 end)) (txt 4 (6 ∷ []) (num 5 1 end)))))
    ≡ record {
      sequence = 1;
      stop = 6 ∷ [];
      arrival = record { delay = some (pos 2); time = some (pos 3) };
      departure = record { delay = some (pos 4); time = some (pos 5) };
      skipped = true;
    }
every_stop = refl

-- what is missing reads as absent
no_trip : trip end
    ≡ record { id = []; time = []; date = []; route = []; cancelled = false; direction = none; delay = none }
no_trip = refl

no_header : header end ≡ record { differential = false; timestamp = none }
no_header = refl

-- an unknown incrementality is FULL_DATASET, another relationship is scheduled
unknown_incrementality : (header (msg 1 1 (num 2 2 end) end)).differential ≡ false
unknown_incrementality = refl

not_cancelled : (trip (descriptor (num 4 1 end))).cancelled ≡ false
unfolding descriptor
not_cancelled = refl

not_skipped : (stop_update (num 5 2 end)).skipped ≡ false
not_skipped = refl

-- direction and delay keep the low 32 bits, a time all 64
low_bits : trip (msg 3 3 (msg 1 4 (num 6 4294967298 end) (num 5 4294967295 end)) end)
    ≡ record {
      id = [];
      time = [];
      date = [];
      route = [];
      cancelled = false;
      direction = some 2;
      delay = some (negsuc 0);
    }
low_bits = refl

whole_time : (stop_update (msg 2 6 (num 2 18446744073709551615 end) end)).arrival.time ≡ some (negsuc 0)
whole_time = refl

-- the last scalar wins; two trips in two trip_updates, and two arrivals, are one
merged_trip : trip (msg 3 3 (msg 1 4 (txt 1 (1 ∷ []) (txt 3 (3 ∷ []) end)) end)
    (msg 3 3 (msg 1 4 (txt 1 (7 ∷ []) end) end) end))
    ≡ record { id = 7 ∷ []; time = []; date = 3 ∷ []; route = []; cancelled = false; direction = none; delay = none }
merged_trip = refl

merged_arrival : (stop_update (msg 2 6 (num 1 2 end) (msg 2 6 (num 2 3 (num 2 4 end)) end))).arrival
    ≡ record { delay = some (pos 2); time = some (pos 4) }
merged_arrival = refl

-- an enum counts by its low 32 bits, and its last value counts, known or not
cancelled : (trip (descriptor (num 4 4294967299 end))).cancelled ≡ true
unfolding descriptor
cancelled = refl

unknown_last : (trip (descriptor (num 4 3 (num 4 99 end)))).cancelled ≡ false
unfolding descriptor
unknown_last = refl

-- a bool counts by all its bits
deleted_wide : deleted (num 2 4294967296 end) ≡ true
deleted_wide = refl

-- the last text counts, an empty one too
no_id : (trip (descriptor (txt 1 (0x31 ∷ []) (txt 1 [] end)))).id ≡ []
unfolding descriptor
no_id = refl

-- a header in two parts, one of them behind an entity
header_merged : header (msg 1 1 (num 2 1 end) (msg 2 2 end (msg 1 1 (num 3 7 end) end))) ≡
    record { differential = true; timestamp = some 7 }
header_merged = refl

-- a delay of -60 in the second of two trip_updates
delay_merged : (trip (msg 3 3 end (msg 3 3 (num 5 18446744073709551556 end) end))).delay ≡ some (negsuc 59)
delay_merged = refl

-- a sequence of 2 ^ 32 + 1, and none
sequence_low : (stop_update (num 1 4294967297 end)).sequence ≡ 1
sequence_low = refl

sequence_none : (stop_update end).sequence ≡ 0
sequence_none = refl
