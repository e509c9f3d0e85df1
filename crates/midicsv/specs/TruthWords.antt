-- The words that some spreadsheet takes for a boolean (docs/SPREADSHEET.md, "The words", which says where each comes from), by their length. Nothing
-- that is proved of reading depends on them.
use Rattle.std.specs.Prelude.{ℕ, List, [], ◌∷◌, ◌++◌}
use Rattle.midicsv.specs.Field.{bytes}

-- of two bytes
abbrev pub words2 : List (List ℕ)
words2 =
    bytes "AO" ∷ bytes "FO" ∷ bytes "IH" ∷ bytes "NE" ∷ []

-- of three bytes
abbrev pub words3 : List (List ℕ)
words3 =
    bytes "ALA" ∷ bytes "RUN" ∷ bytes "SAI" ∷ bytes "TRU" ∷ bytes "VEO" ∷ bytes "VER" ∷ bytes "VRE" ∷ bytes "YIW" ∷ []

-- of four bytes
abbrev pub words4 : List (List ℕ)
words4 =
    bytes "BANA" ∷ bytes "BEEN" ∷ bytes "BERU" ∷ bytes "CERT" ∷ bytes "DISO" ∷ bytes "EGIA" ∷ bytes "FALS" ∷ bytes "FALZ" ∷ bytes "FAUS"
    ∷ bytes "FAUX" ∷ bytes "FAUZ" ∷ bytes "GWIR" ∷ bytes "HEWA" ∷ bytes "IGAZ" ∷ bytes "MPYA" ∷ bytes "PRAV" ∷ bytes "RAST" ∷ bytes "SAND"
    ∷ bytes "SANN" ∷ bytes "SANT" ∷ bytes "SOBA" ∷ bytes "SONN" ∷ bytes "TAIP" ∷ bytes "TOSI" ∷ bytes "TRUE" ∷ bytes "TUOD" ∷ bytes "VALS"
    ∷ bytes "VERA" ∷ bytes "VERO" ∷ bytes "VERU" ∷ bytes "VRAI" ∷ bytes "WAAR" ∷ bytes "WAHR" ∷ bytes "WAOR" ∷ bytes "WIER" ∷ bytes "WOAR"
    ∷ bytes "XARA" ∷ []

-- of five bytes
abbrev pub words5 : List (List ℕ)
words5 =
    bytes "BENAR" ∷ bytes "BREUG" ∷ bytes "DAABI" ∷ bytes "DOGRY" ∷ bytes "FALSA" ∷ bytes "FALSE" ∷ bytes "FALSK" ∷ bytes "FALSO" ∷ bytes "FARSU"
    ∷ bytes "GUA'U" ∷ bytes "HAMIS" ∷ bytes "JETNU" ∷ bytes "JITFA" ∷ bytes "KARYA" ∷ bytes "KWELI" ∷ bytes "LEPAT" ∷ bytes "LERES" ∷ bytes "NAPAK"
    ∷ bytes "NGOHO" ∷ bytes "NIBYO" ∷ bytes "PALSO" ∷ bytes "PALSU" ∷ bytes "PUDNO" ∷ bytes "RANGT" ∷ bytes "SALAH" ∷ bytes "SIBYO" ∷ bytes "SOXTA"
    ∷ bytes "TACNO" ∷ bytes "UBBAW" ∷ bytes "USANN" ∷ bytes "UTHUI" ∷ bytes "VEIRA" ∷ bytes "VERAI" ∷ bytes "VERUM" ∷ bytes "VRAIY" ∷ bytes "VUNWA"
    ∷ bytes "WAAHR" ∷ bytes "WOPAK" ∷ bytes "WOUER" ∷ []

-- of six bytes
abbrev pub words6 : List (List ℕ)
words6 =
    bytes "APLAMS" ∷ bytes "BERDAT" ∷ bytes "BRAERO" ∷ bytes "CHOONA" ∷ bytes "DHUGAA" ∷ bytes "EXACTE" ∷ bytes "FALSCH" ∷ bytes "FALSKT"
    ∷ bytes "FALSUM" ∷ bytes "GIAMAN" ∷ bytes "HALALE" ∷ bytes "ISTINA" ∷ bytes "MAMALA" ∷ bytes "MARINA" ∷ bytes "NGUNTI" ∷ bytes "NKALON"
    ∷ bytes "ONWAAR" ∷ bytes "ONWOAR" ∷ bytes "OPLOMS" ∷ bytes "PRAVDA" ∷ bytes "PRAWDA" ∷ bytes "PRAWJE" ∷ bytes "PROWDA" ∷ bytes "QINISO"
    ∷ bytes "TE'ETE" ∷ bytes "TEIGHA" ∷ bytes "VERTAT" ∷ []

-- of seven bytes
abbrev pub words7 : List (List ℕ)
words7 =
    bytes "FALTSUA" ∷ bytes "GASKIYA" ∷ bytes "GEZURRA" ∷ bytes "HAQIQIY" ∷ bytes "KITUUFU" ∷ bytes "NETACNO" ∷ bytes "NTIYISO" ∷ bytes "PATIESS"
    ∷ bytes "SIKWELI" ∷ bytes "VERITAT" ∷ []

-- of eight bytes
abbrev pub words8 : List (List ℕ)
words8 =
    bytes "CHABODZA" ∷ bytes "EGIAZKOA" ∷ bytes "EQQORTOQ" ∷ bytes "NEIGIAMA" ∷ bytes "NEISTINA" ∷ bytes "NEPRAVDA" ∷ bytes "NET WIER"
    ∷ bytes "TEIGIAMA" ∷ []

-- of nine bytes
abbrev pub words9 : List (List ℕ)
words9 =
    bytes "NO BERDAT" ∷ bytes "TEISINGAI" ∷ bytes "VERDADERO" ∷ bytes "YINYANISO" ∷ []

-- of ten bytes
abbrev pub words10 : List (List ℕ)
words10 =
    bytes "A SI NGOHO" ∷ bytes "VERDADEIRO" ∷ []

-- of eleven bytes
abbrev pub words11 : List (List ℕ)
words11 =
    bytes "NETEISINGAI" ∷ bytes "SSI KITUUFU" ∷ []

-- of twelve bytes
abbrev pub words12 : List (List ℕ)
words12 =
    bytes "ASIYONYANISO" ∷ bytes "EQQUNNGITSOQ" ∷ []

-- all of them
unfoldable pub truth_words : List (List ℕ)
truth_words = words2 ++ (words3 ++ (words4 ++ (words5 ++ (words6 ++ (words7 ++ (words8 ++ (words9 ++ (words10 ++ (words11 ++ words12)))))))))
