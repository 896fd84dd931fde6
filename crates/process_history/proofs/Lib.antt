pub mod SerialTables
