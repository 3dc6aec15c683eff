-- Document 01's examples 1 to 11 (Checked examples). Unless a line has it otherwise: part 0, nothing protected, WP# and HOLD# high.
use Rattle.std.specs.Prelude.{List, [], ◌∷◌, ◌++◌}
use Rattle.worked_examples.specs.Traces.{Step, sample, power_off, spelled, two, three, spi_on, entered, sent, selected, command, wren, wrsr, rdsr, write, i2c_on, word, got}
use Rattle.worked_examples.specs.Cases.{Cell, cell, Case, made}

-- on part 0 with any bytes in the memory
abbrev pub on_part0 : List Step → List Cell → Case
on_part0 steps cells = made 0 0 0 [] steps cells

-- part 4, whose last used address is 0FFFFh: it is the start address, and a word with A16 0 read it
abbrev pub last_used : List Step → Case
last_used steps = made 4 0 0 (cell 0x10000 0x5a ∷ cell 0 0xa5 ∷ cell 0xffff 0x77 ∷ []) (i2c_on 0xffff ++ got 0xa1 [] 0x77 ++ steps) []

unfoldable pub examples : List Case
examples =
    -- 1: after WREN the register shows WEL alone
    on_part0 (spi_on ++ wren ++ rdsr 0x02) []
    -- 2: a WRSR of FFh sets SRWD, BP1 and BP0; one of 00h with WP# low leaves them, and with WP# high it clears them
    ∷ on_part0 (spi_on ++ wrsr 0xff ++ rdsr 0x8c ++ command 16 (0x06 ∷ []) ++ command 16 (0x01 ∷ 0x00 ∷ []) ++ rdsr 0x8c ++ wrsr 0x00 ++ rdsr 0x00) []
    -- 3: BP 01: of two bytes from BFFh on the first is stored; C00h is protected
    ∷ on_part0 (spi_on ++ wrsr 0x04 ++ write (two 0xbff) (0xaa ∷ 0xbb ∷ [])) (cell 0xbff 0xaa ∷ [])
    -- 4: of two bytes from the top address on the second goes to 0
    ∷ on_part0 (spi_on ++ write (two 0xfff) (0x11 ∷ 0x22 ∷ [])) (cell 0xfff 0x11 ∷ cell 0 0x22 ∷ [])
    -- 5: without WREN a WRITE stores nothing, and so does a second one after a single WREN
    ∷ on_part0 (spi_on ++ command 24 (0x02 ∷ 0 ∷ 0 ∷ 0x11 ∷ [])) []
    ∷ on_part0 (spi_on ++ write (two 1) (0x22 ∷ []) ++ command 24 (0x02 ∷ 0 ∷ 2 ∷ 0x33 ∷ [])) (cell 1 0x22 ∷ [])
    -- 6: a data byte that lacks a bit is not stored and leaves WEL set; a WREN that lacks a bit leaves it clear
    ∷ on_part0 (spi_on ++ wren ++ selected 24 (sent 24 (0x02 ∷ 0 ∷ 0 ∷ []) ++ spelled (entered 24) 0xff 0 7) ++ rdsr 0x02) []
    ∷ on_part0 (spi_on ++ selected 24 (spelled (entered 24) 0x06 0 7) ++ rdsr 0x00) []
    -- 7: power off after five bits of the second data byte: only the first one is stored
    ∷ on_part0 (spi_on ++ wren ++ sample 24 2 ++ sent 24 (0x02 ∷ 0 ∷ 0 ∷ 0x5a ∷ []) ++ spelled (entered 24) 0xff 0 5 ++ power_off) (cell 0 0x5a ∷ [])
    -- 8: part 1 made with BP 10: 10000h is protected, the address below it is not
    ∷ made 1 0 2 [] (spi_on ++ write (three 0xffff) (0x11 ∷ 0x22 ∷ [])) (cell 0xffff 0x11 ∷ [])
    -- 9: part 0 lacks RDID: it drives nothing, at the opcode and for three bytes
    ∷ on_part0 (spi_on ++ command 24 (0x9f ∷ 0 ∷ 0 ∷ 0 ∷ [])) []
    -- 10: part 4 after 0FFFFh: with A16 0 the next read is of 10000h; with A16 1 it is past the top, so of 0
    ∷ last_used (got 0xa1 [] 0x5a)
    ∷ last_used (got 0xa3 [] 0xa5)
    -- 11: part 3 with pins 0 acknowledges its read word A1h; A3h is that of pins 1
    ∷ made 3 0 0 [] (i2c_on 0 ++ word 0xa1 0) []
    ∷ made 3 0 0 [] (i2c_on 0 ++ word 0xa3 2) []
    ∷ []
