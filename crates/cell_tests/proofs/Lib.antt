mod StoresWritten
