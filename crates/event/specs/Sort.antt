-- Document 02, request 9: "The byte after the delta", sorted by "a table of 256 numbers, each coding the kind of event and, for 80h to
-- EFh, how many data bytes follow (else 0)", and the "chain of comparisons, which stands as the meaning".
use Rattle.std.specs.Prelude.{ℕ, ◌+◌, ◌*◌, List, [], ◌∷◌, ◌++◌, replicate, leb, eqb}
use Rattle.event.specs.Choice.{pick}

-- "the kind of event", as a number. A "data byte": the event is of the status in force, which was left out
abbrev pub of_force : ℕ
of_force = 0

-- "8n" to "En": a channel event
abbrev pub of_channel : ℕ
of_channel = 1

-- "F0": System_exclusive
abbrev pub of_exclusive : ℕ
of_exclusive = 2

-- "F7": System_exclusive_packet
abbrev pub of_packet : ℕ
of_packet = 3

-- "FF": a meta event
abbrev pub of_meta : ℕ
of_meta = 4

-- "F1..F6, F8..FE": none
abbrev pub of_none : ℕ
of_none = 5

-- "each coding the kind of event and .. how many data bytes follow"
abbrev pub coded : ℕ → ℕ → ℕ
coded kind follow = 4 * kind + follow

-- the "chain of comparisons", in the order of document 01's rows: "Channel data bytes are 0..127"; "8n, 9n, An k v", "Bn c v";
-- "Cn p, Dn v"; "En l m"; "F0, F7, then length, data"; "FF"; the others
unfoldable pub sort_of : ℕ → ℕ
sort_of b =
    pick (leb b 0x7f) (coded of_force 0)
    (pick (leb b 0xbf) (coded of_channel 2)
    (pick (leb b 0xdf) (coded of_channel 1)
    (pick (leb b 0xef) (coded of_channel 2)
    (pick (eqb b 0xf0) (coded of_exclusive 0)
    (pick (eqb b 0xf7) (coded of_packet 0)
    (pick (eqb b 0xff) (coded of_meta 0) (coded of_none 0)))))))

-- "a table of 256 numbers": the numbers of 00 to 7F, 80 to BF, C0 to DF and E0 to EF, then of F0 to FF one by one
unfoldable pub sort_table : List ℕ
sort_table =
    replicate 128 0 ++ replicate 64 6 ++ replicate 32 5 ++ replicate 16 6
    ++ (8 ∷ 20 ∷ 20 ∷ 20 ∷ 20 ∷ 20 ∷ 20 ∷ 12 ∷ 20 ∷ 20 ∷ 20 ∷ 20 ∷ 20 ∷ 20 ∷ 20 ∷ 16 ∷ [])
